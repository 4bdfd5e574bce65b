use Rattle.std.proofs.Common.{◌≡◌, ◌-◌, vec_len}
use Rattle.file_commands.specs.Files.{file_limit}
use Rattle.file_commands.proofs.FileReading.{IsReadSoFar}
use Rattle.file_commands.proofs.files.read_file.Given as goal

abbrev pub invariant-loop-file : goal.invariant-loop-file
invariant-loop-file g l = record {
  room : vec_len l.block ≡ 65_536;
  so_far : IsReadSoFar (g.S.Source.left l.fn.input) (g.S.Source.left l.input) l.file.items;
  kept : g.S.Source.faults l.input ≡ g.S.Source.faults l.fn.input;
}

abbrev pub decreases-loop-file : goal.decreases-loop-file
decreases-loop-file g l = file_limit - vec_len l.file
