use Rattle.std.proofs.Common.{◌+◌, ◌-◌, ◌≤◌, ◌++◌, List, ℕ, ap, take, drop, length, rules}
use borrow.Rule.Slice.PartMut.{post_of}
use Rattle.request_loop.proofs.Failing.{read_fails}
use Rattle.request_loop.proofs.Filling.{fills}
use Rattle.request_loop.proofs.read_buffer.read_after.Goals as goal

pub returns-clause-ok : goal.returns-clause-ok
returns-clause-ok g c =
    let held = c.args.held in
    let items = c.deref_mut.result.now in
    let block = c.read.new.buffer in
    let rest : List ℕ = post_of held (held + c.min.result - held) items in
    let written = take held items ++ (block ++ rest) in
    let within : held ≤ length items = search rules in
    let fits : held + length block ≤ c.args.buffer.now.len = search rules in
    let few : length block ≤ c.args.most = search rules in
    fills _ _ c.read.result c.args.buffer.now.len held c.args.most _ items block rest
    (drop (length written) c.args.buffer.now.items) (ap (take held) c.deref_mut.ensures.value) within fits few
    c.read.ensures.bytes

pub returns-clause-failed : goal.returns-clause-failed
returns-clause-failed g c =
    read_fails g.L.Wire.left g.L.Wire.written g.L.Wire.read_faults c.read.result _ _ _ c.read.ensures.bytes
    c.read.ensures.written c.read.ensures.count c.read.ensures.failed
