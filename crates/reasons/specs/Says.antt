-- What `why` says: the one relation between what is lent and the reply.
use Rattle.std.specs.Prelude.{ℕ, ◌≡◌, Err}
use Rattle.rules.specs.Paper.{Reply, refusal}
use Rattle.rules.specs.Judging.{fine}
use Rattle.rules.specs.declared.Refusal.{Refusal}
use Rattle.rules.specs.declared.Refusal.TheVariants as refusals
use Rattle.walks.specs.Walk.{Net}
use Rattle.walks.specs.Rows.{Rows, network}
use Rattle.walks.specs.Least.{Reached}
use Rattle.walks.specs.Search.{NoWalk}
use Rattle.judging.specs.Order.{why_judged}
use Rattle.reasons.specs.declared.Reason.{Reason}
use Rattle.reasons.specs.Reason.{FirstTrue}
use Rattle.reasons.specs.Paper.{told}

-- The answer for a network of n nodes: where the target can be reached, the first reason that is true. Else 12 with the settled
-- count, before any reason.
pub data Answers (N : Net) (n s t arc : ℕ) : Reply → Type 0 where
  reason : (r : Reason) → Reached N s t → FirstTrue N s t arc r → Answers N n s t arc (told r)
  none : {c : ℕ} → NoWalk N n s t c → Answers N n s t arc (refusal (refusals.NoWalk c))

-- The judgement decides: a refusal is the reply; where it is fine, the answer is given
pub data WhySays (n m : ℕ) (R : Rows) (s t arc : ℕ) : Reply → Type 0 where
  refused : {r : Refusal} → why_judged n m R s t arc ≡ Err r → WhySays n m R s t arc (refusal r)
  answered : {reply : Reply} → why_judged n m R s t arc ≡ fine → Answers (network m R) n s t arc reply → WhySays n m R s t arc reply
