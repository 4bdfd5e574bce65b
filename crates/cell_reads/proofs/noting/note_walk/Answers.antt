use Rattle.std.proofs.Common.{arith, rules, ◌≡◌, ◌<◌, ◌∷◌, [], subst}
use Rattle.lei_records.specs.declared.view.Seen.{Seen}
use Rattle.cell_reads.specs.Notes.{NotesCells}
use Rattle.cell_reads.proofs.NoteLemmas.{walk-all, walk-ends, walk-lacks, walk-next}
use Rattle.cell_reads.proofs.noting.note_walk.Goals as goal

pub returns-in-Empty : goal.returns-in-Empty
returns-in-Empty g c =
    let cells = g.V.View.cells c.args.below.now in
    let answers = g.C.Chain.answers c.args.chain.now in
    let cell = g.C.Chain.cell c.args.chain.now in
    let member = c.loop.member in
    let less : c.loop.counter < 200 = search rules in
    let noted : NotesCells cells c.loop.noted c.note.new.noted (cell member ∷ []) =
    subst (λ key. NotesCells cells c.loop.noted c.note.new.noted (key ∷ [])) c.key.ensures c.in_ok-note.ensures in
    let is : answers member ≡ Seen.Empty = search rules in
    walk-ends cells c.args.noted.now c.loop.noted c.note.new.noted answers cell member c.args.first c.loop.counter less c.loop.invariant.goes_on noted is

pub returns-in-Missing : goal.returns-in-Missing
returns-in-Missing g c =
    let cells = g.V.View.cells c.args.below.now in
    let answers = g.C.Chain.answers c.args.chain.now in
    let cell = g.C.Chain.cell c.args.chain.now in
    let member = c.loop.member in
    let less : c.loop.counter < 200 = search rules in
    let noted : NotesCells cells c.loop.noted c.note.new.noted (cell member ∷ []) =
    subst (λ key. NotesCells cells c.loop.noted c.note.new.noted (key ∷ [])) c.key.ensures c.in_ok-note.ensures in
    let is : answers member ≡ Seen.Missing = search rules in
    walk-lacks cells c.args.noted.now c.loop.noted c.note.new.noted answers cell member c.args.first c.loop.counter less c.loop.invariant.goes_on noted is

pub loop-preserved : goal.loop-preserved
loop-preserved g c =
    let cells = g.V.View.cells c.args.below.now in
    let answers = g.C.Chain.answers c.args.chain.now in
    let cell = g.C.Chain.cell c.args.chain.now in
    let member = c.loop.member in
    let less : c.loop.counter < 200 = search rules in
    let noted : NotesCells cells c.loop.noted c.note.new.noted (cell member ∷ []) =
    subst (λ key. NotesCells cells c.loop.noted c.note.new.noted (key ∷ [])) c.key.ensures c.in_ok-note.ensures in
    let is : answers member ≡ Seen.Held c.in-Held.next = search rules in
    record {
      goes_on = walk-next cells c.args.noted.now c.loop.noted c.note.new.noted answers cell member c.args.first c.loop.counter c.in-Held.next less
          c.loop.invariant.goes_on noted is;
      few = omega arith;
    }

pub returns : goal.returns
returns g c =
    walk-all (g.V.View.cells c.args.below.now) c.args.noted.now c.loop.noted (g.C.Chain.answers c.args.chain.now) (g.C.Chain.cell c.args.chain.now)
    c.loop.member c.args.first _ (search rules) c.loop.invariant.goes_on
