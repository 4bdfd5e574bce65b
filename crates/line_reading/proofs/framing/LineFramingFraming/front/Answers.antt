use Rattle.std.proofs.Common.{◌≡◌, ◌≤◌, Bool, length, arith, subst}
use Rattle.std.proofs.lemmas.Bool.Decides.{nat_tests}
use Rattle.line_reading.specs.LineFrames.{HoldsLines}
use Rattle.line_reading.proofs.LineFronts.{reads_line}
use Rattle.line_reading.proofs.framing.LineFramingFraming.front.Goals as goal

pub returns-then-self : goal.returns-then-self
returns-then-self c bytes holds =
    let H : Bool → Type 0 = λ skips. HoldsLines skips c.args.self.now.seen c.args.held.now bytes in
    c.skip.ensures bytes (subst H c.if-self.true holds)

pub returns-in-Some : goal.returns-in-Some
returns-in-Some c bytes holds =
    let held = c.args.held.now in
    let seen = c.args.self.now.seen in
    let nothing : c.gather-used.result ≡ 0 = omega (arith, c.if-used-gt0.false) in
    let same : seen ≤ length held → c.min-seen.result ≡ seen = λ within. grind (arith, nat_tests, c.min-seen.ensures, within) in
    reads_line c.args.self.now.skips held bytes c.gather-used.new.refusals seen c.min-seen.result c.in-Some.end
    c.line_of.result.now c.read_line.result c.if-self.false holds (c.gather-used.ensures.nothing nothing)
    c.in-Some.ensures.within same c.in-Some.ensures.found c.line_of.ensures c.read_line.ensures
