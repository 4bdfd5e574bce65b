use Rattle.std.proofs.Common.{rules, arith, subst, ◌∙◌}
use Rattle.file_commands.proofs.FileReading.{IsReadSoFar, read-short, reads-more, reads-to-limit, stops-short}
use Rattle.file_commands.proofs.files.read_file.Goals as goal

pub returns-then-len-count-eq-MAX_FILE-clause-stops :
    goal.returns-then-len-count-eq-MAX_FILE-clause-stops
returns-then-len-count-eq-MAX_FILE-clause-stops g c =
    let fills = c.in_ok-count.ensures.ok in
    reads-to-limit _ _ _ _ _ c.loop-file.invariant.so_far fills.3 (omega (arith, fills.1, c.if-len-count-eq-MAX_FILE.true))

pub loop-file-preserved : goal.loop-file-preserved
loop-file-preserved g c =
    let fills = c.in_ok-count.ensures.ok in
    let so_far = reads-more _ _ _ _ _ c.loop-file.invariant.so_far fills.3
    (omega (arith, fills.1, fills.2, c.loop-file.invariant.so_far.short, c.if-len-count-eq-MAX_FILE.false)) in
    record {
      room = search (rules);
      so_far = subst (IsReadSoFar _ _) (search (rules, fills.4)) so_far;
      kept = c.in_ok-count.ensures.kept ∙ c.loop-file.invariant.kept;
    }

pub returns-in_err-append-clause-stops : goal.returns-in_err-append-clause-stops
returns-in_err-append-clause-stops g c =
    let fills = c.in_ok-count.ensures.ok in
    stops-short _ _ _ c.from_residual-in_err-append.ensures.1
    (read-short _ _ _ (reads-more _ _ _ _ _ c.loop-file.invariant.so_far fills.3
    (omega (arith, fills.1, fills.2, c.loop-file.invariant.so_far.short, c.if-len-count-eq-MAX_FILE.false))))
