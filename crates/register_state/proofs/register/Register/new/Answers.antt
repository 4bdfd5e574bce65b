use Rattle.std.proofs.Common.{subst, sym}
use Rattle.register_history.specs.State.{OfficeState}
use Rattle.register_state.specs.Shelving.{IsShelved}
use Rattle.register_state.proofs.Shelved.{shelved-none}
use Rattle.register_state.proofs.register.Register.new.Goals as goal

pub invariant_of-result : goal.invariant_of-result
invariant_of-result c =
    let kept = c.in_ok-shelf.shelf.now in
    let S : OfficeState → Type 0 = λ o. IsShelved o kept in
    subst S (sym c.in_ok-books.ensures) (shelved-none c.args.limits kept c.in_ok-shelf.ensures.keeps)
