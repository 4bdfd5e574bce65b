use Rattle.std.proofs.Common.{◌<◌, ◌^◌, false, List, length, map, sym, subst, ◌∙◌, rules, refl}
use Rattle.std.specs.List.{All}
use Rattle.std.proofs.lemmas.Bool.{false≢true}
use Rattle.register_words.specs.declared.sheets.Form.{Form}
use Rattle.copy_forms.specs.Files.{IsCopy}
use Rattle.copy_csv.specs.Rows.{IsRowOfSheet, KeysRise}
use Rattle.copy_csv.specs.Sheets.{SheetRow, key}
use Rattle.copy_csv.proofs.FileLemmas.{same-fault}
use Rattle.copy_forms.proofs.CopyLemmas.{copy-falls, copy-to, copy-with}
use Rattle.copy_forms.proofs.copies.read_copy_in_json.Goals as goal

pub are_rows_rising-requires : goal.are_rows_rising-requires
are_rows_rising-requires c =
    subst (λ (l : List SheetRow). All (IsRowOfSheet c.args.sheet) l) (sym c.deref.ensures.value)
    c.in-Ok.ensures.found.each

pub returns-then-are_rows_rising-clause-found : goal.returns-then-are_rows_rising-clause-found
returns-then-are_rows_rising-clause-found c =
    let rising : KeysRise (map key c.in-Ok.rows.items) =
    subst (λ (l : List SheetRow). KeysRise (map key l)) c.deref.ensures.value (c.are_rows_rising.ensures.0 c.if-are_rows_rising.true) in (
      c.in-Ok.head,
      refl,
      subst (λ (l : List SheetRow). IsCopy c.args.bytes.now c.args.sheet Form.Json c.in-Ok.head false l) (sym c.from.ensures)
          (copy-with c.args.sheet c.args.bytes.now c.in-Ok.head c.in-Ok.rows.items c.in-Ok.ensures.found rising),
    )

pub returns-else-are_rows_rising-clause-only : goal.returns-else-are_rows_rising-clause-only
returns-else-are_rows_rising-clause-only c = λ err head wide others is.
    let short : length c.args.bytes.now < 2 ^ 64 = search rules in
    copy-falls c.args.sheet c.args.bytes.now c.in-Ok.head c.in-Ok.rows.items short c.in-Ok.ensures.found
    (λ rising. false≢true (sym c.if-are_rows_rising.false ∙ c.are_rows_rising.ensures.1
    (subst (λ (l : List SheetRow). KeysRise (map key l)) (sym c.deref.ensures.value) rising))) head wide others is

pub returns-in-Err-clause-only : goal.returns-in-Err-clause-only
returns-in-Err-clause-only c = λ err head wide others is.
    c.in-Err.ensures.only (same-fault c.in-Err.fault err) head others (copy-to c.args.sheet c.args.bytes.now head wide others is)
