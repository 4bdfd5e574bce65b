-- The lines of a door, served one after another.
use Rattle.std.proofs.Common.{◌≡◌, ℕ, ℤ, List, [], ◌∷◌, ◌++◌, map, false, Option, None, Some, refl, sym, ap, ◌∙◌, subst, append_assoc}
use Rattle.std.proofs.lemmas.List.{append-nil, map-append}
use Rattle.lei_values.specs.Count.{Rose}
use Rattle.lei_outside.specs.Doors.{Comes, TakesBack}
use Rattle.lei_outside.specs.declared.door.Came.{Came}
use Rattle.request_loop.specs.Serving as any
use Rattle.lei_hall.specs.Calling.{AskTurn, IsSamePass, TakesTurns}
use Rattle.lei_hall.specs.Passes.{HallPass}
use Rattle.lei_hall.proofs.Callers.{serves_keep, session_turns, takes_join, takes_none}
use Rattle.issuer_http.specs.Callers.{ServesCaller}
use Rattle.issuer_http.specs.Frames.{http_rules}
use Rattle.issuer_http.specs.Serving.{connection_limit}
use Rattle.issuer_http.specs.declared.ended.Ended.{Ended}
use Rattle.leireg_serve.specs.Desks.{DeskState, GivesLines, IsNoneToCome, LineTells, ServedLine, ServesDesk, ServesEach, ServesLine, Stage, TakesLinesBack, stage}
use Rattle.leireg_serve.specs.declared.desk.DeskEnd.{DeskEnd}

-- ---- what is told of lines

GivesLines-none : {L : Type 0} (told : Option (List L)) → GivesLines told told []
GivesLines-none None = tt
GivesLines-none (Some lines) = refl

TakesLinesBack-none : {L : Type 0} (told : Option (List L)) → TakesLinesBack told told []
TakesLinesBack-none None = tt
TakesLinesBack-none (Some lines) = sym (append-nil lines)

GivesLines-next : {L : Type 0} (u v w : Option (List L)) (lines : List L) (line : L) → GivesLines u v lines → Comes v (Came.Line line) w
    → GivesLines u w (lines ++ line ∷ [])
GivesLines-next None None None lines line a b = tt
GivesLines-next None None (Some new) lines line a b = absurd b
GivesLines-next None (Some mid) w lines line a b = absurd a
GivesLines-next (Some old) None w lines line a b = absurd a
GivesLines-next (Some old) (Some mid) None lines line a b = absurd b
GivesLines-next {L} (Some old) (Some mid) (Some new) lines line a b =
    a ∙ ap (λ (l : List L). lines ++ l) b ∙ sym (append_assoc lines (line ∷ []) new)

TakesLinesBack-next : {L : Type 0} (u v w : Option (List L)) (lines : List L) (line : L) → TakesLinesBack u v lines → TakesBack v w line
    → TakesLinesBack u w (lines ++ line ∷ [])
TakesLinesBack-next None None None lines line a b = tt
TakesLinesBack-next None None (Some new) lines line a b = absurd b
TakesLinesBack-next None (Some mid) w lines line a b = absurd a
TakesLinesBack-next (Some old) None w lines line a b = absurd a
TakesLinesBack-next (Some old) (Some mid) None lines line a b = absurd b
TakesLinesBack-next {L} (Some old) (Some mid) (Some new) lines line a b =
    b ∙ ap (λ (l : List L). l ++ line ∷ []) a ∙ append_assoc old lines (line ∷ [])

-- ---- lines served

each_next : {L : Type 0} (tells : LineTells L) (before mid after : Stage) (lines : List (ServedLine L)) (line : ServedLine L)
    → ServesEach tells before lines mid → ServesLine tells mid line.came line.back line.ended after
    → ServesEach tells before (lines ++ line ∷ []) after
each_next tells before mid after [] line is next =
    let S : Stage → Type 0 = λ s. ServesLine tells s line.came line.back line.ended after in
    (after, subst S is next, refl)
each_next tells before mid after (first ∷ lines) line (between, served, others) next =
    (between, served, each_next tells between mid after lines line others next)

-- ---- turns

same_join : (before mid after : HallPass) → IsSamePass before mid → IsSamePass mid after → IsSamePass before after
same_join before mid after first then = (then.0 ∙ first.0, then.1 ∙ first.1, then.2 ∙ first.2)

-- one turn for each member that a pass was told while a connection was served
caller_turns : (before after : any.Progress HallPass) (left left_now : Option (List ℕ)) (ended : Ended)
    → ServesCaller before left after left_now ended → TakesTurns before.who after.who
caller_turns before after left left_now ended served =
    let end = served.serves in
    serves_keep AskTurn http_rules TakesTurns session_turns connection_limit before left after left_now end.0 end.2

-- ---- a desk while it is served

-- the lines that came so far were served and came back
pub record Serving {L : Type 0} (tells : LineTells L) (begin : Stage) (first back : Option (List L)) (now : Stage) (first_now back_now : Option (List L))
    : Type 0 where
  pub lines : List (ServedLine L)
  pub each : ServesEach tells begin lines now
  pub gave : GivesLines first first_now (map (λ line. line.came) lines)
  pub took : TakesLinesBack back back_now (map (λ line. line.back) lines)
  pub turns : TakesTurns begin.pass now.pass
  pub same : IsSamePass begin.pass now.pass

pub desk_begins : {L : Type 0} (tells : LineTells L) (at : Stage) (first back : Option (List L)) → Serving tells at first back at first back
desk_begins tells at first back = record {
  lines = [];
  each = refl;
  gave = GivesLines-none first;
  took = TakesLinesBack-none back;
  turns = takes_none at.pass;
  same = (refl, refl, refl);
}

desk_next : {L : Type 0} (tells : LineTells L) (begin mid now : Stage) (first back mid_first mid_back now_first now_back : Option (List L))
    (came left : L) (ended : Ended) → Serving tells begin first back mid mid_first mid_back
    → Comes mid_first (Came.Line came) now_first → TakesBack mid_back now_back left → ServesLine tells mid came left ended now
    → Serving tells begin first back now now_first now_back
desk_next {L} tells begin mid now first back mid_first mid_back now_first now_back came left ended desk comes takes serves =
    let line : ServedLine L = record { came = came; back = left; ended = ended } in
    let G : List L → Type 0 = λ ls. GivesLines first now_first ls in
    let T : List L → Type 0 = λ ls. TakesLinesBack back now_back ls in
    record {
      lines = desk.lines ++ line ∷ [];
      each = each_next tells begin mid now desk.lines line desk.each serves;
      gave = subst G (sym (map-append (λ (l : ServedLine L). l.came) desk.lines (line ∷ [])))
          (GivesLines-next first mid_first now_first (map (λ (l : ServedLine L). l.came) desk.lines) came desk.gave comes);
      took = subst T (sym (map-append (λ (l : ServedLine L). l.back) desk.lines (line ∷ [])))
          (TakesLinesBack-next back mid_back now_back (map (λ (l : ServedLine L). l.back) desk.lines) left desk.took takes);
      turns = takes_join begin.pass mid.pass now.pass desk.turns
          (caller_turns (any.progress mid.pass mid.given (tells.written came)) (any.progress now.pass now.given (tells.written left))
          (tells.left came) (tells.left left) ended serves.serves);
      same = same_join begin.pass mid.pass now.pass desk.same serves.serves.same;
    }

-- a line came, was served and was returned
pub desk_goes : {L : Type 0} (tells : LineTells L) (begin mid now : Stage)
    (first back mid_first mid_back next_first next_back now_first now_back : Option (List L)) (came left : L) (ended : Ended)
    → Serving tells begin first back mid mid_first mid_back → Comes mid_first (Came.Line came) next_first
    → next_back ≡ mid_back → now_first ≡ next_first → TakesBack next_back now_back left → ServesLine tells mid came left ended now
    → Serving tells begin first back now now_first now_back
desk_goes {L} tells begin mid now first back mid_first mid_back next_first next_back now_first now_back came left ended desk comes same_back same takes serves =
    let C : Option (List L) → Type 0 = λ u. Comes mid_first (Came.Line came) u in
    let T : Option (List L) → Type 0 = λ u. TakesBack u now_back left in
    desk_next tells begin mid now first back mid_first mid_back now_first now_back came left ended desk
    (subst C (sym same) comes) (subst T same_back takes) serves

-- ---- the end of a desk

GivesLines-closed : {L : Type 0} (u v w : Option (List L)) (lines : List L) → GivesLines u v lines → Comes v Came.Closed w → GivesLines u w lines
GivesLines-closed None None None lines a b = tt
GivesLines-closed None None (Some new) lines a b = absurd b
GivesLines-closed None (Some mid) w lines a b = absurd a
GivesLines-closed (Some old) None w lines a b = absurd a
GivesLines-closed (Some old) (Some mid) None lines a b = absurd b
GivesLines-closed {L} (Some old) (Some mid) (Some new) lines a (none, same) = a ∙ ap (λ (l : List L). lines ++ l) (none ∙ sym same)

GivesLines-failed : {L : Type 0} (u v w : Option (List L)) (lines : List L) → GivesLines u v lines → Comes v Came.Failed w → GivesLines u w lines
GivesLines-failed None None None lines a b = tt
GivesLines-failed None None (Some new) lines a b = absurd b
GivesLines-failed None (Some mid) w lines a b = absurd a
GivesLines-failed (Some old) None w lines a b = absurd a
GivesLines-failed (Some old) (Some mid) None lines a b = absurd b
GivesLines-failed {L} (Some old) (Some mid) (Some new) lines a (some, same) = a ∙ ap (λ (l : List L). lines ++ l) (sym same)

none_to_come : {L : Type 0} (v w : Option (List L)) → Comes v Came.Closed w → IsNoneToCome w
none_to_come None None b = tt
none_to_come None (Some new) b = absurd b
none_to_come (Some old) None b = absurd b
none_to_come (Some old) (Some new) (none, same) = same

abbrev IsClosed : DeskEnd → Type 0
IsClosed DeskEnd.Closed = Unit {0}
IsClosed DeskEnd.Failed = ⊥

-- the door is closed
pub desk_closed : {L : Type 0} (tells : LineTells L) (begin back : HallPass) (mid : Stage) (desk now : DeskState L) (mid_first mid_back : Option (List L))
    → Serving tells (stage begin desk.given) desk.to_come desk.came_back mid mid_first mid_back → back ≡ mid.pass → now.given ≡ mid.given
    → Comes mid_first Came.Closed now.to_come → now.came_back ≡ mid_back → now.out ≡ false → now.faults ≡ desk.faults
    → ServesDesk tells begin desk back now DeskEnd.Closed
desk_closed {L} tells begin back mid desk now mid_first mid_back serving pass given comes same out faults =
    let P : HallPass → Type 0 = λ p. ServesDesk tells begin desk p now DeskEnd.Closed in
    subst P (sym pass) (record {
      lines = serving.lines;
      each = subst (λ (g : Option (List ℤ)). ServesEach tells (stage begin desk.given) serving.lines (stage mid.pass g)) (sym given) serving.each;
      gave = GivesLines-closed desk.to_come mid_first now.to_come (map (λ (l : ServedLine L). l.came) serving.lines) serving.gave comes;
      took = subst (λ (b : Option (List L)). TakesLinesBack desk.came_back b (map (λ (l : ServedLine L). l.back) serving.lines)) (sym same) serving.took;
      turns = serving.turns;
      same = serving.same;
      out = out;
      closed = λ is. (none_to_come mid_first now.to_come comes, faults);
      failed = λ is. absurd (subst IsClosed is tt);
    })

-- the door failed
pub desk_failed : {L : Type 0} (tells : LineTells L) (begin back : HallPass) (mid : Stage) (desk now : DeskState L) (mid_first mid_back : Option (List L))
    → Serving tells (stage begin desk.given) desk.to_come desk.came_back mid mid_first mid_back → back ≡ mid.pass → now.given ≡ mid.given
    → Comes mid_first Came.Failed now.to_come → now.came_back ≡ mid_back → now.out ≡ false → Rose desk.faults now.faults
    → ServesDesk tells begin desk back now DeskEnd.Failed
desk_failed {L} tells begin back mid desk now mid_first mid_back serving pass given comes same out rose =
    let P : HallPass → Type 0 = λ p. ServesDesk tells begin desk p now DeskEnd.Failed in
    subst P (sym pass) (record {
      lines = serving.lines;
      each = subst (λ (g : Option (List ℤ)). ServesEach tells (stage begin desk.given) serving.lines (stage mid.pass g)) (sym given) serving.each;
      gave = GivesLines-failed desk.to_come mid_first now.to_come (map (λ (l : ServedLine L). l.came) serving.lines) serving.gave comes;
      took = subst (λ (b : Option (List L)). TakesLinesBack desk.came_back b (map (λ (l : ServedLine L). l.back) serving.lines)) (sym same) serving.took;
      turns = serving.turns;
      same = serving.same;
      out = out;
      closed = λ is. absurd (subst IsClosed (sym is) tt);
      failed = λ is. rose;
    })
