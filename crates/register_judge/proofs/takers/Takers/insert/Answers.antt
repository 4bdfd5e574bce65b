use Rattle.std.proofs.Common.{◌≡◌, Some, None, rules}
use Rattle.std.proofs.lemmas.Result.{on_ok_weaker}
use Rattle.short_texts.specs.Packed.{packed_pair}
use Rattle.short_texts.proofs.PairLemmas.{at_pair-long, at_pair-short}
use Rattle.register_judge.specs.Overlays.{long_taker_at, short_taker_at}
use Rattle.register_judge.proofs.takers.Takers.insert.Goals as goal

pub returns-in-Some : goal.returns-in-Some
returns-in-Some c =
    let was = c.args.self.now in
    let is : packed_pair c.args.authority.now c.args.id.now ≡ Some c.in-Some.numbers = search rules in
    on_ok_weaker c.insert_short.result
    (at_pair-short c.args.authority.now c.args.id.now (λ _. Some c.args.lei) c.in-Some.numbers is (short_taker_at was.short) (short_taker_at c.insert_short.new.short) (long_taker_at was.long))
    c.insert_short.ensures

pub returns-in-None : goal.returns-in-None
returns-in-None c =
    let was = c.args.self.now in
    let none : packed_pair c.args.authority.now c.args.id.now ≡ None = search rules in
    on_ok_weaker c.insert_long.result
    (at_pair-long c.args.authority.now c.args.id.now (λ _. Some c.args.lei) none (short_taker_at was.short) (long_taker_at was.long) (long_taker_at c.insert_long.new.long))
    c.insert_long.ensures
