use Rattle.std.proofs.Common.{◌≡◌, ◌∙◌, ap, sym, cond, Some, bytes_eq, subst, List, ℕ, rules, false, true}
use Rattle.std.proofs.lemmas.Map.Text.{is_eq-slice_cmp}
use Rattle.lei_code.specs.Code.{IsValid}
use Rattle.upload_ledger.specs.Index.{places_of}
use Rattle.upload_ledger.proofs.IndexLemmas.{index-note, index-other}
use Rattle.upload_ledger.proofs.index.note.Goals as goal

pub returns-in_default : goal.returns-in_default
returns-in_default c = record {
  index = index-other c.args.entries.now c.args.index.now c.args.entry.now
      (λ valid. (let V : List ℕ → Type 0 = λ text. IsValid text in
      let bad : false ≡ true = c.in_default.ensures.valid.1 (subst V (sym c.as_slice.ensures) valid) in cc))
      c.requires.index;
}

pub returns-in-Some : goal.returns-in-Some
returns-in-Some c =
    let new = c.get_mut.follows.lender c.note.new.self in
    let office : c.in-Ok.issuer ≡ c.args.entry.now.office = c.in-Ok.ensures.value ∙ c.as_slice.ensures in
    record {
      index = index-note c.args.entries.now c.args.index.now new c.args.entry.now c.in-Some.places.now c.note.new.self c.requires.index
          (ap (places_of c.args.index.now) (sym office) ∙ sym c.in-Some.ensures.value)
          (λ q. ((c.get_mut.follows.holds c.note.new.self).3 (search rules)).0 q
          ∙ ap (λ b. cond b (Some c.note.new.self) (places_of c.args.index.now q)) (is_eq-slice_cmp c.in-Ok.issuer q ∙ ap (λ i. bytes_eq i q) office))
          c.note.ensures.accreditation c.note.ensures.uploads;
    }
