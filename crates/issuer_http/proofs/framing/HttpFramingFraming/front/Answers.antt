use Rattle.std.proofs.Common.{Some}
use Rattle.http_heads.proofs.Reading.{more_of}
use Rattle.request_loop.specs.declared.frames.Front.{Front}
use Rattle.issuer_http.proofs.Fronts.{of_bytes, reads_more, reads_refusal}
use Rattle.issuer_http.proofs.framing.HttpFramingFraming.front.Goals as goal

pub returns-in-More : goal.returns-in-More
returns-in-More c bytes holds =
    let held = c.args.held.now in
    let awaited = c.args.self.now.awaited in
    of_bytes awaited awaited held bytes (Front.More 0) holds (reads_more held awaited (more_of held c.in-More.ensures) holds.1)

pub returns-in-Bad : goal.returns-in-Bad
returns-in-Bad c bytes holds =
    let held = c.args.held.now in
    let awaited = c.args.self.now.awaited in
    of_bytes awaited awaited held bytes (Front.Whole (Some c.refusal_want.result) 0) holds
    (reads_refusal held awaited c.in-Bad.fault c.refusal_want.result c.in-Bad.ensures holds.1 c.refusal_want.ensures)
