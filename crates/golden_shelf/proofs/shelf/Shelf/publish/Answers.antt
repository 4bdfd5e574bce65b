use Rattle.std.proofs.Common.{[], ◌∷◌, ◌++◌, ap, sym, subst, ◌∙◌}
use Rattle.lei_shapes.specs.Moment.{IsMoment}
use Rattle.register_words.specs.declared.sheets.Sheet.{Sheet}
use Rattle.golden_shelf.specs.Lines.{with_lines}
use Rattle.golden_shelf.specs.Parts.{kept_parts}
use Rattle.golden_shelf.specs.Shelves.{KeepsTrail, MayFollow, lines_of}
use Rattle.golden_shelf.proofs.Keeping.{pairs_of, to_line}
use Rattle.golden_shelf.proofs.Publishing.{by_sheet, keeps_next, lines_next, noted_rising}
use Rattle.std.proofs.Common.{map, ◌≡◌}
use Rattle.golden_shelf.proofs.shelf.Shelf.publish.Goals as goal

pub put-requires-clause-lei_rising : goal.put-requires-clause-lei_rising
put-requires-clause-lei_rising g c =
    noted_rising Sheet.Lei c.args.changes.now c.in_ok-notes.notes.items c.in_ok-parts.parts.lei.items c.in_ok-notes.ensures.notes
    c.requires.changes c.in_ok-parts.ensures.lei

pub put-requires-clause-rr_rising : goal.put-requires-clause-rr_rising
put-requires-clause-rr_rising g c =
    noted_rising Sheet.Rr c.args.changes.now c.in_ok-notes.notes.items c.in_ok-parts.parts.rr.items c.in_ok-notes.ensures.notes
    c.requires.changes c.in_ok-parts.ensures.rr

pub put-requires-clause-repex_rising : goal.put-requires-clause-repex_rising
put-requires-clause-repex_rising g c =
    noted_rising Sheet.Repex c.args.changes.now c.in_ok-notes.notes.items c.in_ok-parts.parts.repex.items c.in_ok-notes.ensures.notes
    c.requires.changes c.in_ok-parts.ensures.repex

pub returns-clause-next : goal.returns-clause-next
returns-clause-next g c = λ trail next keeps issued.
    let kept = kept_parts c.self.inside.issues.items c.self.inside.sides in
    let changes = c.args.changes.now in
    let are = c.in_ok-notes.ensures.notes in
    keeps_next trail kept (kept_parts c.push_reserved.new.self.items c.put.new.self) changes
    (record { moment = c.args.moment; wide = c.args.wide; keys = c.in_ok-keys.keys }) next c.requires.changes
    (subst (λ issues. MayFollow issues c.args.wide) (sym (ap (λ s. s.now.issues) c.self.view_is)) c.requires.follows) c.requires.plain
    (subst IsMoment c.seconds.ensures.value c.seconds.ensures.moment)
    (c.push_reserved.ensures.items ∙ ap (λ l. l ++ record { moment = c.args.moment; wide = c.args.wide; keys = c.in_ok-keys.keys } ∷ []) c.in_ok-reserve.ensures.items)
    c.in_ok-keys.ensures
    (by_sheet (λ sheet. lines_of (kept_parts c.push_reserved.new.self.items c.put.new.self) sheet ≡ with_lines (lines_of kept sheet) (map to_line (pairs_of sheet changes)))
    (lines_next Sheet.Lei changes c.in_ok-notes.notes.items c.in_ok-parts.parts.lei.items _ _ _ are c.in_ok-parts.ensures.lei c.in_ok-make_room.ensures.lei c.put.ensures.lei)
    (lines_next Sheet.Rr changes c.in_ok-notes.notes.items c.in_ok-parts.parts.rr.items _ _ _ are c.in_ok-parts.ensures.rr c.in_ok-make_room.ensures.rr c.put.ensures.rr)
    (lines_next Sheet.Repex changes c.in_ok-notes.notes.items c.in_ok-parts.parts.repex.items _ _ _ are c.in_ok-parts.ensures.repex c.in_ok-make_room.ensures.repex c.put.ensures.repex))
    (subst (KeepsTrail trail) (sym (ap (λ s. s.now) c.self.view_is)) keeps) issued
