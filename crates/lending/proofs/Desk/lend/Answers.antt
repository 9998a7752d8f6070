-- `lending::Desk::lend` meets its contract.
use Rattle.std.proofs.Common.{arith}
use Rattle.commands.specs.declared.rows.Kind.TheVariants.{Counts, Numbers, Bytes}
use Rattle.lending.proofs.LendLaws.{values_after, values_ready, room_ready, lend_is}
use Rattle.lending.proofs.Desk.lend.Goals as goal

pub store_words-requires-clause-judged : goal.store_words-requires-clause-judged
store_words-requires-clause-judged c = values_ready _ _ _ c.after_word.ensures.words c.after_word-words.ensures.words c.args.row _ c.stretch-s.ensures.value c.requires Counts c.in-Counts.is

pub store_words-requires-clause-room : goal.store_words-requires-clause-room
store_words-requires-clause-room c =
    let room = room_ready _ _ _ c.after_word.ensures.words c.after_word-words.ensures.words c.args.row _ c.stretch-s.ensures.value c.requires Counts c.in-Counts.is c.stretch-s.ensures.lies in
    omega arith

pub returns-in-Counts : goal.returns-in-Counts
returns-in-Counts c =
    lend_is c.args.self.now c.args.row _ c.stretch-s.ensures.value Counts c.in-Counts.is _ _
    (values_after _ _ _ c.after_word.ensures.words c.after_word-words.ensures.words) _ c.count_words.ensures _ c.store_words.ensures

pub store_words-requires-in-Numbers-clause-judged : goal.store_words-requires-in-Numbers-clause-judged
store_words-requires-in-Numbers-clause-judged c = values_ready _ _ _ c.after_word.ensures.words c.after_word-words.ensures.words c.args.row _ c.stretch-s.ensures.value c.requires Numbers c.in-Numbers.is

pub store_words-requires-in-Numbers-clause-room : goal.store_words-requires-in-Numbers-clause-room
store_words-requires-in-Numbers-clause-room c =
    let room = room_ready _ _ _ c.after_word.ensures.words c.after_word-words.ensures.words c.args.row _ c.stretch-s.ensures.value c.requires Numbers c.in-Numbers.is c.stretch-s.ensures.lies in
    omega arith

pub returns-in-Numbers : goal.returns-in-Numbers
returns-in-Numbers c =
    lend_is c.args.self.now c.args.row _ c.stretch-s.ensures.value Numbers c.in-Numbers.is _ _
    (values_after _ _ _ c.after_word.ensures.words c.after_word-words.ensures.words) _ c.count_words.ensures _ c.store_words-in-Numbers.ensures

pub store_words-requires-in-Bytes-clause-judged : goal.store_words-requires-in-Bytes-clause-judged
store_words-requires-in-Bytes-clause-judged c = values_ready _ _ _ c.after_word.ensures.words c.after_word-words.ensures.words c.args.row _ c.stretch-s.ensures.value c.requires Bytes c.in-Bytes.is

pub store_words-requires-in-Bytes-clause-room : goal.store_words-requires-in-Bytes-clause-room
store_words-requires-in-Bytes-clause-room c =
    let room = room_ready _ _ _ c.after_word.ensures.words c.after_word-words.ensures.words c.args.row _ c.stretch-s.ensures.value c.requires Bytes c.in-Bytes.is c.stretch-s.ensures.lies in
    omega arith

pub returns-in-Bytes : goal.returns-in-Bytes
returns-in-Bytes c =
    lend_is c.args.self.now c.args.row _ c.stretch-s.ensures.value Bytes c.in-Bytes.is _ _
    (values_after _ _ _ c.after_word.ensures.words c.after_word-words.ensures.words) _ c.count_words.ensures _ c.store_words-in-Bytes.ensures
