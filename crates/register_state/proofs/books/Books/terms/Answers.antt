use Rattle.std.proofs.Common.{◌≡◌, ℤ, sym, ap, ◌∙◌, subst, of_z, to_z, w64, rules}
use Rattle.lei_shapes.specs.Moment.{IsMoment}
use Rattle.upload_ledger.specs.History.{stamp}
use Rattle.register_history.proofs.Histories.{stamp-is_moment}
use Rattle.register_state.proofs.books.Books.terms.Goals as goal

pub moment_of-requires : goal.moment_of-requires
moment_of-requires c =
    let inside = c.self.inside in
    let same : to_z w64 (of_z w64 c.stamp.result) ≡ c.stamp.result = search rules in
    let stamped = same ∙ (c.stamp.ensures.stamp ∙ ap (λ h. stamp h c.args.moment) c.entries.ensures) in
    let M : ℤ → Type 0 = λ m. IsMoment m in
    subst M (sym stamped) (stamp-is_moment inside.limits inside.ledger.entries c.args.moment c.self.invariant.legal c.stamp.ensures.moment)
