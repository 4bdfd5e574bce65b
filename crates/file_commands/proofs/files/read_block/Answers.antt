use Rattle.std.proofs.Common.{◌≤◌, ◌-◌, ℕ, List, length, rules}
use borrow.Rule.Slice.PartMut.{post_of}
use Rattle.file_commands.proofs.FileReading.{fills_block}
use Rattle.file_commands.proofs.files.read_block.Goals as goal

pub returns-clause-ok : goal.returns-clause-ok
returns-clause-ok g c =
    let piece = c.read.new.buffer in
    let rest : List ℕ = post_of 0 (c.min-end.result - 0) c.deref_mut.result.now in
    let fits : length piece ≤ c.args.block.now.len = search rules in
    let few : length piece ≤ c.args.most = search rules in
    fills_block _ _ c.read.result c.args.block.now.len c.args.most piece rest _ fits few c.read.ensures.bytes
