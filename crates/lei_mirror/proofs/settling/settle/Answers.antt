use Rattle.std.proofs.Common.{◌≡◌, ◌<◌, ◌≤◌, ap, arith}
use Rattle.lei_mirror.specs.declared.tables.Tables.{Tables}
use Rattle.lei_mirror.specs.Mirrors.{IsGreatestReady}
use Rattle.lei_mirror.proofs.SettlingLemmas.{goes_on, rests, shown_small, tables_made}
use Rattle.lei_mirror.proofs.settling.settle.Goals as goal

pub loop-number-smaller : goal.loop-number-smaller
loop-number-smaller c =
    let is : IsGreatestReady c.loop-number.now.publication c.args.kept.now c.in-Some.number = c.in-Some.ensures in
    let later : c.loop-number.now.publication < c.in-Some.number = is.ready.later in
    let shown : c.in_ok-now-2.now.publication ≡ c.in-Some.number = ap (λ (t : Tables). t.publication) c.in_ok-now-2.ensures in
    let small : c.in_ok-now-2.now.publication ≤ 1_000_000 =
    shown_small c.in_ok-now-2.now (tables_made c.loop-number.now c.args.kept.now c.in-Some.number c.in_ok-now-2.now c.loop-number.invariant.tables c.requires.packets is c.in_ok-now-2.ensures) in
    omega arith

pub loop-number-preserved : goal.loop-number-preserved
loop-number-preserved c =
    let is : IsGreatestReady c.loop-number.now.publication c.args.kept.now c.in-Some.number = c.in-Some.ensures in
    let later : c.loop-number.now.publication < c.in-Some.number = is.ready.later in
    let shown : c.in_ok-now-2.now.publication ≡ c.in-Some.number = ap (λ (t : Tables). t.publication) c.in_ok-now-2.ensures in
    let rises : c.args.tables.now.publication ≤ c.loop-number.now.publication = c.loop-number.invariant.rises in
    record {
      goes = goes_on c.args.tables.now c.args.kept.now c.loop-number.now c.in_ok-now-2.now c.in-Some.number c.loop-number.invariant.goes is c.in_ok-now-2.ensures;
      tables = tables_made c.loop-number.now c.args.kept.now c.in-Some.number c.in_ok-now-2.now c.loop-number.invariant.tables c.requires.packets is c.in_ok-now-2.ensures;
      rises = omega arith;
    }

pub returns-clause-settles : goal.returns-clause-settles
returns-clause-settles c = rests c.args.tables.now c.args.kept.now c.loop-number.now c.loop-number.invariant.goes c.in_default.ensures
