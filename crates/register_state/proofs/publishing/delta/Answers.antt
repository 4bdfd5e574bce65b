use Rattle.std.proofs.Common.{ap, sym, subst, Ok, Err, ◌∙◌}
use Rattle.register_words.specs.declared.sheets.Form.{Form}
use Rattle.register_words.specs.declared.sheets.Sheet.{Sheet}
use Rattle.copy_forms.specs.Trails.{Trail}
use Rattle.register_words.specs.declared.base.Base.{Base}
use Rattle.golden_shelf.specs.declared.fault.ShelfFault.{ShelfFault}
use Rattle.register_history.specs.Replies.{delta_outcome, stays}
use Rattle.register_words.specs.declared.request.Request.TheVariants.{Delta}
use Rattle.register_state.proofs.Shelved.{IsToldOf, delta-told}
use Rattle.register_state.proofs.publishing.delta.Goals as goal

-- the reply if a shelf reports a fault
abbrev told_fault : Base → Sheet → Form → Trail → ShelfFault → Type 0
told_fault base sheet form trail fault = IsToldOf (Delta base sheet form) (delta_outcome base sheet form trail) form (Err fault)

pub returns-in-Ok : goal.returns-in-Ok
returns-in-Ok c = λ trail keeps.
    delta-told trail c.args.shelf.now.now c.args.base c.args.sheet c.args.form (Ok c.in-Ok.text) keeps c.in-Ok.ensures.refused c.in-Ok.ensures.given
    ∙ ap stays (sym c.file_reply.ensures)

pub returns-in-Err-NothingPublished : goal.returns-in-Err-NothingPublished
returns-in-Err-NothingPublished c = λ trail keeps.
    let found = c.in-Err-NothingPublished in
    let told = delta-told trail c.args.shelf.now.now c.args.base c.args.sheet c.args.form (Err found.field-0) keeps found.ensures.refused found.ensures.given in
    subst (told_fault c.args.base c.args.sheet c.args.form trail) found.field-0-is told

pub returns-in-Err-PublicationUnknown : goal.returns-in-Err-PublicationUnknown
returns-in-Err-PublicationUnknown c = λ trail keeps.
    let found = c.in-Err-PublicationUnknown in
    let told = delta-told trail c.args.shelf.now.now c.args.base c.args.sheet c.args.form (Err found.field-0) keeps found.ensures.refused found.ensures.given in
    subst (told_fault c.args.base c.args.sheet c.args.form trail) found.field-0-is told

pub returns-in-Err-NoBase : goal.returns-in-Err-NoBase
returns-in-Err-NoBase c = λ trail keeps.
    let found = c.in-Err-NoBase in
    let told = delta-told trail c.args.shelf.now.now c.args.base c.args.sheet c.args.form (Err found.field-0) keeps found.ensures.refused found.ensures.given in
    subst (told_fault c.args.base c.args.sheet c.args.form trail) found.field-0-is told

pub returns-in-Err-NoMemory : goal.returns-in-Err-NoMemory
returns-in-Err-NoMemory c = λ trail keeps.
    let found = c.in-Err-NoMemory in
    let told = delta-told trail c.args.shelf.now.now c.args.base c.args.sheet c.args.form (Err found.field-0) keeps found.ensures.refused found.ensures.given in
    subst (told_fault c.args.base c.args.sheet c.args.form trail) found.field-0-is told
