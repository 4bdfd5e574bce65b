use Rattle.std.proofs.Common.{◌<◌, ◌^◌, false, List, length, map, sym, subst, ◌∙◌, rules, refl}
use Rattle.std.specs.List.{All}
use Rattle.std.proofs.lemmas.Bool.{false≢true}
use Rattle.register_words.specs.declared.sheets.Form.{Form}
use Rattle.copy_forms.specs.Files.{IsDelta}
use Rattle.copy_csv.specs.declared.rows.Change.{Change}
use Rattle.copy_csv.specs.Rows.{IsChangeOf, KeysRise, changed_key}
use Rattle.copy_csv.proofs.FileLemmas.{same-fault}
use Rattle.copy_forms.proofs.CopyLemmas.{delta-falls, delta-to, delta-with}
use Rattle.copy_forms.proofs.copies.read_delta_in_json.Goals as goal

pub are_changes_rising-requires : goal.are_changes_rising-requires
are_changes_rising-requires c =
    subst (λ (l : List Change). All (IsChangeOf c.args.sheet) l) (sym c.deref.ensures.value)
    c.in-Ok.ensures.found.each

pub returns-then-are_changes_rising-clause-found : goal.returns-then-are_changes_rising-clause-found
returns-then-are_changes_rising-clause-found c =
    let rising : KeysRise (map changed_key c.in-Ok.changes.items) =
    subst (λ (l : List Change). KeysRise (map changed_key l)) c.deref.ensures.value (c.are_changes_rising.ensures.0 c.if-are_changes_rising.true) in (
      c.in-Ok.head,
      refl,
      subst (λ (l : List Change). IsDelta c.args.bytes.now c.args.sheet Form.Json c.in-Ok.head false l) (sym c.from.ensures)
          (delta-with c.args.sheet c.args.bytes.now c.in-Ok.head c.in-Ok.changes.items c.in-Ok.ensures.found rising),
    )

pub returns-else-are_changes_rising-clause-only : goal.returns-else-are_changes_rising-clause-only
returns-else-are_changes_rising-clause-only c = λ err head wide others is.
    let short : length c.args.bytes.now < 2 ^ 64 = search rules in
    delta-falls c.args.sheet c.args.bytes.now c.in-Ok.head c.in-Ok.changes.items short c.in-Ok.ensures.found
    (λ rising. false≢true (sym c.if-are_changes_rising.false ∙ c.are_changes_rising.ensures.1
    (subst (λ (l : List Change). KeysRise (map changed_key l)) (sym c.deref.ensures.value) rising))) head wide others is

pub returns-in-Err-clause-only : goal.returns-in-Err-clause-only
returns-in-Err-clause-only c = λ err head wide others is.
    c.in-Err.ensures.only (same-fault c.in-Err.fault err) head others (delta-to c.args.sheet c.args.bytes.now head wide others is)
