-- Laws of lines that ask for `lend`.
use Rattle.std.proofs.Common.{◌≡◌, refl, sym, ap, subst, ◌∙◌, ℕ, ◌+◌, ◌≤◌, List, [], ◌∷◌, ◌++◌, map, length, take, drop, set, Bool, true, false, cond, leb, Result, Ok, Err, arith}
use lib.Dec.{leb→le}
use lib.Seq.{drop-drop}
use Rattle.std.specs.Option.{ok_or}
use Rattle.commands.specs.Verbs.{verb_of, takes_words}
use Rattle.commands.specs.Rows.{Value, Lies, size_of, stretch_of, places_of, kind_of}
use Rattle.commands.specs.Words.{words_of, word}
use Rattle.commands.specs.Commands.{on_ok, number, byte, values_judged, row_in, lend_asked, show_asked, asked, line_judged, command_of}
use Rattle.commands.specs.declared.Fault.{Fault}
use Rattle.commands.specs.declared.Fault.TheVariants.{NoCommand, WordCount, LongRow}
use Rattle.commands.specs.declared.Command.{Command}
use Rattle.commands.specs.declared.Command.TheVariants.{Lend, Fresh, Read, Save, Other}
use Rattle.commands.specs.declared.verbs.Verb.{Verb}
use Rattle.commands.specs.declared.verbs.Verb.TheVariants as verb
use Rattle.commands.specs.declared.rows.Row.{Row}
use Rattle.commands.specs.declared.rows.Kind.{Kind}
use Rattle.commands.specs.declared.rows.Stretch.{Stretch}
use Rattle.lending.specs.Stores.{with_store, store_of, put_at, stored, all_of, on_desk}
use Rattle.lending.specs.Lending.{value_in, lending}
use Rattle.lending.specs.declared.Desk.{Desk}
use Rattle.lending.proofs.PartLaws.{stored_from}

-- what a command says of the words after a line's first two
abbrev Promised : List (List ℕ) → Result Command Fault → Type 0
Promised values (Ok (Lend row)) = (length values ≤ places_of row) × (values_judged (kind_of row) values ≡ Ok tt)
Promised values (Ok Fresh) = Unit {0}
Promised values (Ok (Read reading)) = Unit {0}
Promised values (Ok (Save format)) = Unit {0}
Promised values (Ok (Other r)) = Unit {0}
Promised values (Err f) = Unit {0}

module _ (values : List (List ℕ)) where
  after_ok : {A : Type 0} (r : Result A Fault) (go : A → Result Command Fault) → ((a : A) → r ≡ Ok a → Promised values (go a)) → Promised values (on_ok r go)
  after_ok (Ok a) go p = p a refl
  after_ok (Err f) go p = tt

  lend_row : (row : Row) → Promised values (lend_asked values row)
  lend_row row = by_count (leb (length values) (places_of row)) refl
    where
      by_count : (z : Bool) → leb (length values) (places_of row) ≡ z → Promised values (cond z (on_ok (values_judged (kind_of row) values) (λ _. Ok (Lend row))) (Err LongRow))
      by_count true h = after_ok (values_judged (kind_of row) values) _ (λ _ e. (leb→le _ _ (rw h tt), e))
      by_count false h = tt

  show_row : (ws : List (List ℕ)) (row : Row) → Promised values (show_asked ws row)
  show_row [] row = tt
  show_row (k ∷ more) row = after_ok (number k) _ (λ _ _. tt)

  verb_promised : (v : Verb) (ws : List (List ℕ)) → drop 1 ws ≡ values → Promised values (asked v ws)
  verb_promised verb.N ws e = after_ok (number (word 0 ws)) _ (λ _ _. tt)
  verb_promised verb.M ws e = after_ok (number (word 0 ws)) _ (λ _ _. tt)
  verb_promised verb.Lend ws e = after_ok (row_in ws) _ (λ row _. rw e (lend_row row))
  verb_promised verb.Show ws e = after_ok (row_in ws) _ (λ row _. show_row (drop 1 ws) row)
  verb_promised (verb.Read reading) ws e = tt
  verb_promised verb.Build ws e = tt
  verb_promised verb.Check ws e = tt
  verb_promised verb.Update ws e = after_ok (number (word 0 ws)) _ (λ _ _. after_ok (number (word 1 ws)) _ (λ _ _. after_ok (byte (word 2 ws)) _ (λ _ _. tt)))
  verb_promised verb.Search ws e = after_ok (number (word 0 ws)) _ (λ _ _. after_ok (number (word 1 ws)) _ (λ _ _. tt))
  verb_promised verb.Boxed ws e = after_ok (number (word 0 ws)) _ (λ _ _. after_ok (number (word 1 ws)) _ (λ _ _. tt))
  verb_promised verb.Why ws e = after_ok (number (word 0 ws)) _ (λ _ _. after_ok (number (word 1 ws)) _ (λ _ _. after_ok (number (word 2 ws)) _ (λ _ _. tt)))
  verb_promised (verb.Write format) ws e = tt
  verb_promised (verb.Save format) ws e = tt
  verb_promised verb.Fresh ws e = tt
  verb_promised verb.Help ws e = tt

  by_words : (z : Bool) (c : Result Command Fault) → Promised values c → Promised values (cond z c (Err WordCount))
  by_words true c p = p
  by_words false c p = tt

-- the words of a line after the first two
values_of : (line : List ℕ) → drop 1 (drop 1 (words_of line)) ≡ drop 2 (words_of line)
values_of line = drop-drop 1 1 (words_of line)

command_promised : (line : List ℕ) → Promised (drop 2 (words_of line)) (command_of line)
command_promised line =
    let ws = words_of line in
    after_ok (drop 2 ws) (line_judged line) _ (λ _ _.
    after_ok (drop 2 ws) (ok_or (verb_of (word 0 ws) (word 1 ws)) NoCommand) _ (λ v _.
    by_words (drop 2 ws) (takes_words v (length ws)) _ (verb_promised (drop 2 ws) v (drop 1 ws) (values_of line))
    ))

module _ (line : List ℕ) (more words : List (List ℕ)) (p : more ≡ drop 1 (words_of line)) (q : words ≡ drop 1 more) where
  pub values_after : words ≡ drop 2 (words_of line)
  values_after = q ∙ ap (drop 1) p ∙ values_of line

  -- what `lend` finds in them, where s is the row's stretch
  module _ (row : Row) (s : Stretch) (e : s ≡ stretch_of row) (c : command_of line ≡ Ok (Lend row)) where
    ready : (length words ≤ places_of row) × (values_judged (kind_of row) words ≡ Ok tt)
    ready = rw values_after (subst (Promised (drop 2 (words_of line))) c (command_promised line))

    pub values_ready : (kind : Kind) → s.kind ≡ kind → values_judged kind words ≡ Ok tt
    values_ready kind k = subst (λ (x : Kind). values_judged x words ≡ Ok tt) (sym (ap (λ (t : Stretch). t.kind) e) ∙ k) ready.1

    -- there is room for them
    pub room_ready : (kind : Kind) → s.kind ≡ kind → (l : Lies s) → s.start + length words ≤ size_of kind
    room_ready kind k l =
        let within = subst (λ (x : Kind). s.start + s.places ≤ size_of x) k l.within in
        let few = ap (λ (t : Stretch). t.places) e in
        let fits = ready.0 in
        omega (arith, within, few, fits)

-- the desk once values are stored from the first place of a stretch on, and as many places are lent
abbrev lent_to : (kind : Kind) → List (Value kind) → Stretch → ℕ → Desk → Desk
lent_to kind store s k d = record (on_desk (with_store kind store (all_of d)) d) { lent = record { most = set d.lent.most s.number k } }

abbrev filled : (kind : Kind) → Stretch → List (List ℕ) → Desk → List (Value kind)
filled kind s words d =
    let store = store_of kind (all_of d) in
    let values = map (value_in kind) words in
    take s.start store ++ stored values (drop s.start store)

pub lend_is : (d : Desk) (row : Row) (s : Stretch) → s ≡ stretch_of row → (kind : Kind) → s.kind ≡ kind → (ws words : List (List ℕ)) → ws ≡ words
    → (k : ℕ) → k ≡ length ws → (store : List (Value kind)) → store ≡ filled kind s ws d → lent_to kind store s k d ≡ lending row words d
unfolding put_at
lend_is d row s e kind q ws words w k n store f =
    let to : Stretch → Desk = λ (t : Stretch). lent_to t.kind (filled t.kind t words d) t (length words) d in
    let kind' = kind_of row in
    let there = stored_from (stretch_of row).start (map (value_in kind') words) (store_of kind' (all_of d)) in
    rw (f, n, w)
    (subst (λ (x : Kind). lent_to x (filled x s words d) s (length words) d ≡ to s) q refl
    ∙ ap to e
    ∙ ap (λ (store : List (Value kind')). lent_to kind' store (stretch_of row) (length words) d) there)
