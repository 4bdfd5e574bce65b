use Rattle.std.proofs.Common.{◌≡◌, ◌≤◌, ◌+◌, ◌-◌}
use Rattle.register_demo.specs.Plan.{block_count}
use Rattle.register_demo.specs.Requests.{uploads_from, uploads_of}
use Rattle.register_demo.proofs.Stages.{Sending}
use Rattle.register_demo.proofs.asking.send_uploads.Given as goal

-- the uploads of the blocks before this one were sent, and those starting with this one are left
abbrev pub invariant-loop-block : goal.invariant-loop-block
invariant-loop-block g l =
    (1 ≤ l.block) × (l.block ≤ block_count l.uploads.n + 1) × (l.told + 1 ≤ l.block)
    × Sending l.fn.office.office l.uploads.count (uploads_of l.uploads.group l.uploads.n) l.fn.answers.items l.office.office (l.uploads.count + l.block - 1)
    (uploads_from l.uploads.group l.uploads.n l.block (block_count l.uploads.n + 1 - l.block)) l.answers.items l.told
    × (l.out ≡ l.fn.out)
