use Rattle.std.proofs.Common.{◌≡◌, Some, None, refl, rules}
use Rattle.std.proofs.lemmas.Result.{on_err_weaker, on_ok_weaker}
use Rattle.short_texts.specs.Packed.{packed_pair}
use Rattle.short_texts.proofs.PairLemmas.{at_pair-long, at_pair-same, at_pair-short}
use Rattle.register_table.specs.Indexes.{noted_long, noted_short}
use Rattle.register_table.proofs.authority_key_index.AuthorityKeyIndex.note.Goals as goal

pub returns-in-Some-clause-put : goal.returns-in-Some-clause-put
returns-in-Some-clause-put c =
    let was = c.args.self.now in
    let is : packed_pair c.args.authority.now c.args.id.now ≡ Some c.in-Some.key = search rules in
    on_ok_weaker c.note.result
    (at_pair-short c.args.authority.now c.args.id.now (λ _. Some (Some c.args.lei)) c.in-Some.key is (noted_short was.short) (noted_short c.note.new.self) (noted_long was.long))
    c.note.ensures.put

pub returns-in-Some-clause-err : goal.returns-in-Some-clause-err
returns-in-Some-clause-err c =
    let was = c.args.self.now in
    on_err_weaker c.note.result
    (λ same. at_pair-same (noted_short was.short) (noted_short c.note.new.self) (noted_long was.long) (noted_long was.long) same (λ a i. refl))
    c.note.ensures.err

pub returns-in-None-clause-put : goal.returns-in-None-clause-put
returns-in-None-clause-put c =
    let was = c.args.self.now in
    let none : packed_pair c.args.authority.now c.args.id.now ≡ None = search rules in
    on_ok_weaker c.note-in-None.result
    (at_pair-long c.args.authority.now c.args.id.now (λ _. Some (Some c.args.lei)) none (noted_short was.short) (noted_long was.long) (noted_long c.note-in-None.new.self))
    c.note-in-None.ensures.put

pub returns-in-None-clause-err : goal.returns-in-None-clause-err
returns-in-None-clause-err c =
    let was = c.args.self.now in
    on_err_weaker c.note-in-None.result
    (at_pair-same (noted_short was.short) (noted_short was.short) (noted_long was.long) (noted_long c.note-in-None.new.self) (λ key. refl))
    c.note-in-None.ensures.err
