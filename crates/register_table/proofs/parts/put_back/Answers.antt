use Rattle.std.proofs.Common.{refl, sym, subst}
use Rattle.std.specs.Prelude.{option_map}
use Rattle.register_table.specs.Cells.{cell_in}
use Rattle.register_table.specs.Undos.{cells_with}
use Rattle.register_table.specs.Held.{CanBeKept, cell_key, rows}
use Rattle.register_table.specs.Indexes.{end_in_index, holder_in}
use Rattle.register_table.specs.Parts.{AreIndexes}
use Rattle.register_table.proofs.PartLemmas.{without}
use Rattle.register_table.proofs.parts.put_back.Goals as goal

pub returns-in-None-clause-parts : goal.returns-in-None-clause-parts
returns-in-None-clause-parts c =
    let parts = c.args.parts.now in
    let kept = subst (λ slot. CanBeKept (rows (cells_with parts.cells (cell_key c.args.key) (option_map cell_in slot)))) c.in-None.is c.requires.kept in
    record {
      kept = subst (λ held. CanBeKept (rows held)) (sym c.remove.ensures.cells) kept;
      indexes = subst (λ held. AreIndexes (rows held) (holder_in parts.holders) (end_in_index parts.ends)) (sym c.remove.ensures.cells)
          (without parts.cells (holder_in parts.holders) (holder_in parts.holders) (end_in_index parts.ends) (end_in_index parts.ends)
          c.requires.parts.kept c.requires.parts.indexes c.args.key (λ a i. refl) (λ s kind. refl));
    }
