use Rattle.std.proofs.Common.{◌∙◌, sym}
use Rattle.std.proofs.lemmas.Str.{IsCharBoundary-start}
use Rattle.lei_values.proofs.PieceLemmas.{AreEnds-boundary, AreEnds-rise, AreEnds-start, pieces-at}
use Rattle.lei_records.proofs.field_texts.piece_at.Goals as goal

pub range-requires-clause-start_le_end : goal.range-requires-clause-start_le_end
range-requires-clause-start_le_end c =
    rw (c.start_of-start.ensures) (AreEnds-rise 0 c.args.ends.now c.args.text.now c.args.index c.requires.ends c.requires.index)

pub range-requires-clause-start_boundary : goal.range-requires-clause-start_boundary
range-requires-clause-start_boundary c _ =
    rw (c.start_of-start.ensures) (AreEnds-start 0 c.args.ends.now c.args.text.now c.args.index (IsCharBoundary-start c.args.text.now c.utf8.text) c.requires.ends c.requires.index)

pub range-requires-clause-end_boundary : goal.range-requires-clause-end_boundary
range-requires-clause-end_boundary c =
    AreEnds-boundary 0 c.args.ends.now c.args.text.now c.args.index c.requires.ends c.requires.index

pub returns : goal.returns
returns c =
    c.range.ensures.value
    ∙ (rw (c.start_of-start.ensures) (sym (pieces-at 0 c.args.ends.now c.args.text.now c.args.index _ c.requires.index)))
