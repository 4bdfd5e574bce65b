use Rattle.std.proofs.Common.{◌≡◌, ◌≤◌, length, rules, arith}
use Rattle.short_texts.specs.Packed.{number_after}
use Rattle.short_texts.proofs.NumberLemmas.{short_has}
use Rattle.short_texts.proofs.numbers.packed.Goals as goal

pub returns : goal.returns
returns c =
    let short : length c.args.text.now ≤ 15 = search rules in
    let is : c.number_of_bytes.result ≡ number_after 1 c.args.text.now = search rules in
    short_has c.args.text.now c.number_of_bytes.result short (λ k within. let fits = c.type_inv.text k in omega arith) is
