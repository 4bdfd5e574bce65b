use Rattle.std.proofs.Common.{◌≡◌, Some, None, rules}
use Rattle.short_texts.specs.Packed.{packed_pair}
use Rattle.short_texts.proofs.PairLemmas.{at_pair-long, at_pair-short}
use Rattle.register_table.specs.Indexes.{after_dropping, noted_long, noted_short}
use Rattle.register_table.proofs.authority_key_index.AuthorityKeyIndex.drop_freed.Goals as goal

pub returns-in-Some : goal.returns-in-Some
returns-in-Some c =
    let was = c.args.self.now in
    let is : packed_pair c.args.authority.now c.args.id.now ≡ Some c.in-Some.key = search rules in
    at_pair-short c.args.authority.now c.args.id.now after_dropping c.in-Some.key is (noted_short was.short) (noted_short c.drop_freed.new.self) (noted_long was.long) c.drop_freed.ensures

pub returns-in-None : goal.returns-in-None
returns-in-None c =
    let was = c.args.self.now in
    let none : packed_pair c.args.authority.now c.args.id.now ≡ None = search rules in
    at_pair-long c.args.authority.now c.args.id.now after_dropping none (noted_short was.short) (noted_long was.long) (noted_long c.drop_freed-in-None.new.self) c.drop_freed-in-None.ensures
