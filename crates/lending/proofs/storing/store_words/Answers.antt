-- `lending::storing::store_words` meets its contract.
use Rattle.std.proofs.Common.{rules, ◌≡◌, sym, ◌∙◌, map}
use Rattle.commands.specs.Words.{words_of}
use Rattle.lending.proofs.PartLaws.{stored_from}
use Rattle.lending.proofs.StoreLaws.{word_judged, storing_more, storing_end}
use Rattle.lending.proofs.storing.store_words.Goals as goal

pub unwrap-requires : goal.unwrap-requires
unwrap-requires g c = let judged = word_judged _ _ _ _ _ c.requires.room _ _ _ c.loop-k.invariant _ _ c.in-Some.ensures.steps.0 in search rules

pub loop-k-preserved : goal.loop-k-preserved
loop-k-preserved g c =
    let ahead = c.in-Some.ensures.steps.0 in
    let judged = word_judged _ _ _ _ _ c.requires.room _ _ _ c.loop-k.invariant _ _ ahead in
    let value : c.unwrap.result ≡ g.T.Spelt.value c.in-Some.word.now = search rules in
    rw (c.in-Some.ensures.steps.1, c.in-Some.ensures.steps.2, value) (storing_more _ _ _ _ _ c.requires.room _ _ _ c.loop-k.invariant _ _ ahead)

pub returns : goal.returns
returns g c =
    let a = c.args in
    let stored_all = storing_end _ _ _ _ _ c.requires.room _ _ _ c.loop-k.invariant c.in-None.ensures.steps.0.0 in
    stored_all.1 ∙ sym (stored_from a.start (map g.T.Spelt.value (words_of a.words.now)) a.store.now)
