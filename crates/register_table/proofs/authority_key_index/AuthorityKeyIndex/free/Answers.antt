use Rattle.std.proofs.Common.{◌≡◌, Some, None, rules}
use Rattle.short_texts.specs.Packed.{packed_pair}
use Rattle.short_texts.proofs.PairLemmas.{at_pair-long, at_pair-short}
use Rattle.register_table.specs.Indexes.{after_freeing, noted_long, noted_short}
use Rattle.register_table.proofs.authority_key_index.AuthorityKeyIndex.free.Goals as goal

pub returns-in-Some : goal.returns-in-Some
returns-in-Some c =
    let was = c.args.self.now in
    let is : packed_pair c.args.authority.now c.args.id.now ≡ Some c.in-Some.key = search rules in
    at_pair-short c.args.authority.now c.args.id.now after_freeing c.in-Some.key is (noted_short was.short) (noted_short c.free.new.self) (noted_long was.long) c.free.ensures

pub returns-in-None : goal.returns-in-None
returns-in-None c =
    let was = c.args.self.now in
    let none : packed_pair c.args.authority.now c.args.id.now ≡ None = search rules in
    at_pair-long c.args.authority.now c.args.id.now after_freeing none (noted_short was.short) (noted_long was.long) (noted_long c.free-in-None.new.self) c.free-in-None.ensures
