use Rattle.std.proofs.Common.{List, ℕ, ◌∙◌, ◌<◌, length, ap, arith, get_or, []}
use Rattle.item_fields.proofs.PairLemmas.{pairs_count, second_at}
use Rattle.item_fields.proofs.item.Fields.text.Goals as goal

pub overflow_mul-index : goal.overflow_mul-index
overflow_mul-index c =
    let count = pairs_count c.self.inside.texts c.args.self.now c.self.invariant c.self.view_is in
    omega (arith, count, c.requires, c.len-count.ensures, c.len-count.type_inv)

pub overflow_add-index : goal.overflow_add-index
overflow_add-index c =
    let count = pairs_count c.self.inside.texts c.args.self.now c.self.invariant c.self.view_is in
    omega (arith, count, c.requires, c.len-count.ensures, c.len-count.type_inv)

pub text-requires : goal.text-requires
text-requires c =
    let count = pairs_count c.self.inside.texts c.args.self.now c.self.invariant c.self.view_is in
    omega (arith, count, c.requires)

pub returns : goal.returns
returns c =
    let within : c.args.index < length c.args.self.now = c.requires in
    c.text.ensures ∙ second_at c.self.inside.texts c.args.index (rw c.self.view_is within) ∙ ap (λ (pairs : List (List ℕ × List ℕ)). (get_or pairs c.args.index ([], [])).1) c.self.view_is
