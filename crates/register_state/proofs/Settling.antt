-- An upload that is added leaves the shelf as it is.
use Rattle.std.proofs.Common.{◌≡◌, Ok, sym, subst}
use Rattle.golden_shelf.specs.Shelves.{ShelfState}
use Rattle.lei_values.specs.declared.entry.KeptEntry.{KeptEntry}
use Rattle.register_table.specs.Undos.{WriteList}
use Rattle.register_words.specs.declared.request.Call.{Call}
use Rattle.register_words.specs.declared.request.Request.TheVariants.{Upload}
use Rattle.register_history.specs.Replies.{outcome_at}
use Rattle.register_history.specs.State.{OfficeState}
use Rattle.register_state.specs.Books.{office_with_entry}
use Rattle.register_state.specs.Deciding.{Decides}
use Rattle.register_state.specs.Shelving.{IsShelved, Shelves}
use Rattle.register_state.specs.declared.decision.Decision.{Decision}
use Rattle.register_state.specs.declared.decision.Decision.TheVariants.{Adds}
use Rattle.register_state.proofs.Shelved.{upload-shelves}
use Rattle.register_history.specs.declared.terms.EntryTerms.{EntryTerms}

pub upload-stays-shelved : (office new : OfficeState) (call : Call) (terms : EntryTerms) (shelf : ShelfState) (decision : Decision) (entry : KeptEntry) (list : WriteList)
    → decision ≡ Adds entry list → Decides office (Upload call) (outcome_at office (Upload call) terms) (Ok decision) → IsShelved office shelf.now
    → new ≡ office_with_entry office entry → IsShelved new shelf.now
upload-stays-shelved office new call terms shelf decision entry list is decides shelved added =
    let S : Decision → Type 0 = λ d. Shelves office shelf (Ok d) shelf in
    let I : OfficeState → Type 0 = λ o. IsShelved o shelf.now in
    subst I (sym added) (subst S is (upload-shelves office.limits office.history call terms shelf (Ok decision) shelved decides)).0
