use Rattle.std.proofs.Common.{◌∙◌, ◌++◌, ◌∷◌, [], ◌+◌, ap, cond, refl, subst, arith}
use Rattle.upload_ledger.specs.History.{History, is_publication}
use Rattle.upload_ledger.specs.Index.{IsIndex}
use Rattle.upload_ledger.specs.Limits.{AreFew}
use Rattle.upload_ledger.proofs.KeptLemmas.{few-accreditations, kept-push, old-entries}
use Rattle.upload_ledger.proofs.ledger.Ledger.push_reserved.Goals as goal

pub overflow_add-self : goal.overflow_add-self
overflow_add-self c =
    let few : AreFew (c.self.inside.entries.items ++ c.args.entry ∷ []) = old-entries c.self.inside c.args.self.now c.args.entry c.self.view_is c.requires.few in
    omega (arith, few-accreditations c.self.inside c.args.entry c.self.invariant few, c.accreditations_in.ensures)

pub invariant_of-self : goal.invariant_of-self
invariant_of-self c =
    let e = c.args.entry in
    let few : AreFew (c.self.inside.entries.items ++ e ∷ []) = old-entries c.self.inside c.args.self.now e c.self.view_is c.requires.few in
    kept-push c.self.inside _ e c.self.invariant c.push_reserved.ensures.items
    (let P : History → Type 0 = λ h. IsIndex (h ++ e ∷ []) c.note.new.index in subst P c.as_slice.ensures.value c.note.ensures.index)
    (c.note_publication.ensures ∙ ap (λ n. cond (is_publication e) (c.self.inside.publications.items ++ n ∷ []) c.self.inside.publications.items) (c.len.ensures ∙ c.self.inside.entries.ok.0))
    (ap (λ n. c.self.inside.accreditations + n) c.accreditations_in.ensures) (ap (λ n. c.self.inside.kept_bytes + n) c.len-2.ensures) few refl
