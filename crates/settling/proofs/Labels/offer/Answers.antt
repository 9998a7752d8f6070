-- `settling::Labels::offer` meets its contract.
use mathlib.Core.Path.{sym, ◌∙◌}
use native.Mathlib.Omega.{arith}
use Rattle.settling.specs.Labels.{labelled}
use Rattle.settling.proofs.Offers.{offered-yes, offered_no}
use Rattle.settling.proofs.TreeFollows.{key_lower, front_labelled, front_settled}
use Rattle.settling.proofs.Labels.offer.Goals as goal

pub lower-requires : goal.lower-requires
lower-requires c =
    let o = c.requires.0 in
    let v = c.args.v in
    let told = sym c.yields.ensures ∙ c.if-yields.true in
    (omega arith, rw c.key.ensures (key_lower c.requires.1 v _ _ o.low o.high o.near o.few told), c.requires.1.mended)

pub returns-then-not-self-at : goal.returns-then-not-self-at
unfolding labelled
returns-then-not-self-at c =
    let o = c.requires.0 in
    let v = c.args.v in
    let told = sym c.yields.ensures ∙ c.if-yields.true in
    record { same = sym (offered-yes _ v _ _ told); front = front_labelled c.requires.1 v o.low o.high _ c.lower.ensures _ _ o.near c.if-not-self-at.true c.key.ensures }

pub returns-else-not-self-at : goal.returns-else-not-self-at
unfolding labelled
returns-else-not-self-at c =
    let o = c.requires.0 in
    let v = c.args.v in
    let told = sym c.yields.ensures ∙ c.if-yields.true in
    record { same = sym (offered-yes _ v _ _ told); front = front_settled c.requires.1 v o.low o.high _ _ c.if-not-self-at.false }

pub returns-else-yields : goal.returns-else-yields
returns-else-yields c =
    let v = c.args.v in
    let told = sym c.yields.ensures ∙ c.if-yields.false in
    record { same = sym (offered_no _ v _ _ told); front = c.requires.1 }
