-- A session between two frames, and how it ends.
use Rattle.std.proofs.Common.{◌≡◌, ◌⊎◌, inl, inr, ℕ, ℤ, ◌+◌, ◌-◌, ◌*◌, ◌<◌, ◌≤◌, List, [], ◌∷◌, ◌++◌, length, drop, Option, None, Some, Ok, Err, refl, sym, ap, ◌∙◌, subst, arith, length-append, length-drop}
use Rattle.std.specs.Prelude.{IfSome}
use Rattle.std.proofs.lemmas.List.{append-nil}
use Rattle.lei_outside.specs.Told.{Grows, IsAtEnd, Loses, WritesFront}
use Rattle.lei_outside.specs.declared.faults.SinkFault.{SinkFault}
use Rattle.lei_outside.proofs.Told.{Loses-none, Loses-join}
use Rattle.request_loop.specs.Frames.{AreMeant, Fits, Frames, GoesOn, IsMeant, ReadsMore, ReadsRefused, ReadsWhole, Rules}
use Rattle.request_loop.specs.ReadBuffers.{Fills}
use Rattle.request_loop.specs.Serving.{AnswersFrame, AnswersInPart, AnswersLast, AnswersTo, AnswersWant, EndsWith, Progress, Ran, Serves, ended_unread, ended_unsent, read_limit}
use Rattle.request_loop.specs.declared.frames.Ended.{Ended}
use Rattle.request_loop.specs.declared.frames.Want.{Want}
use Rattle.request_loop.specs.declared.read_buffer.ReadFault.{ReadFault}
use Rattle.request_loop.proofs.FrameLists.{frames_join, frames_more, frames_one}
use Rattle.request_loop.proofs.Refusing.{ran_refused, stops_refusing, written_so}
use Rattle.request_loop.proofs.Running.{answers_meant, ran_join, ran_none, ran_nothing, ran_one, stopped_join, stopped_one}

-- This many bytes were taken. All whole frames in them before the bytes `since` were answered, and `held` is what is
-- held of these.
pub record Midway {A W P E : Type 0} (step : A → W → List ℤ → P → A → Type 0) (rules : Rules W P E) (most : ℕ)
    (holding : List ℕ → List ℕ → Type 0) (start : Progress A) (first left : Option (List ℕ)) (count : ℕ) (now : Progress A)
    (held waiting : List ℕ) : Type 0 where
  pub bytes : List ℕ
  pub since : List ℕ
  pub long : length bytes ≡ count
  pub below : count < most
  pub loses : Loses first left bytes
  pub answered : AnswersTo step rules start bytes since now
  pub holds : holding held since
  pub waits : waiting ≡ []

-- a whole frame stays whole if more bytes follow it
abbrev pub WholeOn : {W P E : Type 0} → Rules W P E → Type 0
WholeOn {W} {P} {E} rules = (bytes rest more : List ℕ) (frame : Option (Want W E)) → rules.whole bytes frame rest
    → rules.whole (bytes ++ more) frame (rest ++ more)

pub begins : {A W P E : Type 0} (step : A → W → List ℤ → P → A → Type 0) (rules : Rules W P E) (most : ℕ)
    (holding : List ℕ → List ℕ → Type 0) (at : Progress A) (left : Option (List ℕ)) (held waiting : List ℕ) → 0 < most
    → holding [] [] → waiting ≡ [] → held ≡ [] → Midway step rules most holding at left left 0 at held waiting
begins step rules most holding at left held waiting some holds waits none =
    let H : List ℕ → Type 0 = λ l. holding l [] in
    record {
      bytes = [];
      since = [];
      long = refl;
      below = some;
      loses = Loses-none left;
      answered = ([], refl, ran_nothing step rules at);
      holds = subst H (sym none) holds;
      waits = waits;
    }

-- ---- what was answered earlier

to_join : {A W P E : Type 0} (step : A → W → List ℤ → P → A → Type 0) (rules : Rules W P E) (start mid now : Progress A)
    (bytes since rest : List ℕ) (frames : List (Option (Want W E))) → AnswersTo step rules start bytes since mid
    → Frames rules since frames rest → Ran step rules mid frames now → AnswersTo step rules start bytes rest now
to_join step rules start mid now bytes since rest frames first are ran = (
  first.0 ++ frames,
  frames_join rules bytes since first.0 frames rest first.1 are,
  ran_join step rules start mid now first.0 frames first.2 ran,
)

to_more : {A W P E : Type 0} (step : A → W → List ℤ → P → A → Type 0) (rules : Rules W P E) (start now : Progress A)
    (bytes since more : List ℕ) → WholeOn rules → AnswersTo step rules start bytes since now
    → AnswersTo step rules start (bytes ++ more) (since ++ more) now
to_more step rules start now bytes since more on first =
    (first.0, frames_more rules on bytes more first.0 since first.1, first.2)

in_part_join : {A W P E : Type 0} (step : A → W → List ℤ → P → A → Type 0) (rules : Rules W P E)
    (start mid now : Progress A) (bytes since : List ℕ) (left : Option (List ℕ)) → AnswersTo step rules start bytes since mid
    → AnswersInPart step rules mid since left now → AnswersInPart step rules start bytes left now
in_part_join step rules start mid now bytes since left first (frames, rest, want, are, wants, stopped) = (
  first.0 ++ frames,
  rest,
  want,
  frames_join rules bytes since first.0 frames rest first.1 are,
  wants,
  stopped_join step rules start mid now first.0 frames want first.2 stopped,
)

-- ---- more bytes are read

below_most : {A W P E : Type 0} (step : A → W → List ℤ → P → A → Type 0) (rules : Rules W P E) (most : ℕ)
    (holding : List ℕ → List ℕ → Type 0) (start : Progress A) (first left : Option (List ℕ)) (count : ℕ) (now : Progress A)
    (held waiting : List ℕ) → (at : Midway step rules most holding start first left count now held waiting)
    → length at.bytes < most
below_most step rules most holding start first left count now held waiting at =
    let long = at.long in let below = at.below in omega (arith, long, below)

takes_no_more : (first mid left : Option (List ℕ)) (bytes : List ℕ) → Loses first mid bytes → Loses mid left []
    → Loses first left bytes
takes_no_more first mid left bytes taken more =
    let L : List ℕ → Type 0 = λ l. Loses first left l in
    subst L (append-nil bytes) (Loses-join first mid left bytes [] taken more)

-- nothing could be read
serves_unread : {A W P E : Type 0} (step : A → W → List ℤ → P → A → Type 0) (rules : Rules W P E) (most : ℕ)
    (start : Progress A) (first left : Option (List ℕ)) (now : Progress A) (bytes since : List ℕ) (fault : ReadFault)
    → length bytes < most → Loses first left bytes → AnswersTo step rules start bytes since now → rules.begun since
    → Serves step rules most start first now left (ended_unread fault)
serves_unread step rules most start first left now bytes since ReadFault.Failed few taken answered begun =
    record { bytes = bytes; takes = taken; ends = (few, (since, answered, begun)) }
serves_unread step rules most start first left now bytes since ReadFault.NoMemory few taken answered begun =
    record { bytes = bytes; takes = taken; ends = (few, inl (since, answered, begun)) }

pub ends_unread : {A W P E : Type 0} (step : A → W → List ℤ → P → A → Type 0) (rules : Rules W P E) (most : ℕ)
    (holding then_holding : List ℕ → List ℕ → Type 0) (start : Progress A) (first mid left : Option (List ℕ)) (count n : ℕ)
    (now : Progress A) (held waiting then_waiting : List ℕ) (written : Option (List ℕ)) (fault : ReadFault)
    → (at : Midway step rules most holding start first mid count now held waiting)
    → ReadsMore rules then_holding at.since held then_waiting n → Loses mid left [] → written ≡ now.written
    → Serves step rules most start first (written_so now written) left (ended_unread fault)
ends_unread {A} step rules most holding then_holding start first mid left count n now held waiting then_waiting written fault at reads unread same =
    let S : Option (List ℕ) → Type 0 = λ w. Serves step rules most start first (written_so now w) left (ended_unread fault) in
    let few = below_most step rules most holding start first mid count now held waiting at in
    let taken = takes_no_more first mid left at.bytes at.loses unread in
    subst S (sym same) (serves_unread step rules most start first left now at.bytes at.since fault few taken at.answered
    reads.begun)

pub ends_at_limit : {A W P E : Type 0} (step : A → W → List ℤ → P → A → Type 0) (rules : Rules W P E) (most : ℕ)
    (holding then_holding : List ℕ → List ℕ → Type 0) (start : Progress A) (first mid left : Option (List ℕ)) (count n k room : ℕ)
    (now : Progress A) (held rest filled waiting then_waiting : List ℕ) (written : Option (List ℕ))
    → (at : Midway step rules most holding start first mid count now held waiting)
    → ReadsMore rules then_holding at.since held then_waiting n → Fills mid left rest filled k room → written ≡ now.written
    → 0 < k → k ≤ read_limit → count + k ≡ most
    → Serves step rules most start first (written_so now written) left Ended.InputLimit
ends_at_limit step rules most holding then_holding start first mid left count n k room now held rest filled waiting then_waiting written at reads fills same some few full =
    let S : Option (List ℕ) → Type 0 = λ w. Serves step rules most start first (written_so now w) left Ended.InputLimit in
    let long = at.long in
    let more = fills.1 in
    subst S (sym same) (record {
      bytes = at.bytes ++ fills.0;
      takes = Loses-join first mid left at.bytes fills.0 at.loses fills.3;
      ends = (
        at.bytes,
        fills.0,
        refl,
        omega (arith, long, more, full, length-append at.bytes fills.0),
        omega (arith, more, some),
        omega (arith, more, few),
        (at.since, at.answered, reads.begun),
      );
    })

-- what is held of the bytes after that
pub holds_more : {A W P E : Type 0} (step : A → W → List ℤ → P → A → Type 0) (rules : Rules W P E) (most : ℕ)
    (holding then_holding : List ℕ → List ℕ → Type 0) (start : Progress A) (first mid left : Option (List ℕ)) (count n k room : ℕ)
    (now : Progress A) (held rest filled waiting then_waiting : List ℕ)
    → (at : Midway step rules most holding start first mid count now held waiting)
    → ReadsMore rules then_holding at.since held then_waiting n → rest ≡ drop n held
    → (fills : Fills mid left rest filled k room) → then_holding filled (at.since ++ fills.0)
holds_more step rules most holding then_holding start first mid left count n k room now held rest filled waiting then_waiting at reads dropped fills =
    let H : List ℕ → Type 0 = λ l. then_holding l (at.since ++ fills.0) in
    subst H (sym (fills.4 ∙ ap (λ (l : List ℕ). l ++ fills.0) dropped)) (reads.holds fills.0)

pub reads_on : {A W P E : Type 0} (step : A → W → List ℤ → P → A → Type 0) (rules : Rules W P E) (most : ℕ)
    (holding then_holding : List ℕ → List ℕ → Type 0) (start : Progress A) (first mid left : Option (List ℕ)) (count n k room : ℕ)
    (now : Progress A) (held rest filled waiting then_waiting : List ℕ) (written : Option (List ℕ)) → WholeOn rules
    → (at : Midway step rules most holding start first mid count now held waiting)
    → ReadsMore rules then_holding at.since held then_waiting n → rest ≡ drop n held → Fills mid left rest filled k room
    → written ≡ now.written → count + k < most
    → Midway step rules most then_holding start first left (count + k) (written_so now written) filled then_waiting
reads_on step rules most holding then_holding start first mid left count n k room now held rest filled waiting then_waiting written on at reads dropped fills same below =
    let M : Option (List ℕ) → Type 0 = λ w.
    Midway step rules most then_holding start first left (count + k) (written_so now w) filled then_waiting in
    let long = at.long in
    let more = fills.1 in
    subst M (sym same) (record {
      bytes = at.bytes ++ fills.0;
      since = at.since ++ fills.0;
      long = omega (arith, long, more, length-append at.bytes fills.0);
      below = below;
      loses = Loses-join first mid left at.bytes fills.0 at.loses fills.3;
      answered = to_more step rules start now at.bytes at.since fills.0 on at.answered;
      holds = holds_more step rules most holding then_holding start first mid left count n k room now held rest filled waiting
          then_waiting at reads dropped fills;
      waits = reads.waits;
    })

-- the measure of the loop
pub smaller_more : {W P E : Type 0} (rules : Rules W P E) (holding : List ℕ → List ℕ → Type 0) (most count n k room : ℕ)
    (mid left : Option (List ℕ)) (since held rest filled waiting : List ℕ) → ReadsMore rules holding since held waiting n
    → rest ≡ drop n held → Fills mid left rest filled k room → 0 < k → count + k < most
    → 2 * (most - (count + k)) + length filled < 2 * (most - count) + length held
smaller_more rules holding most count n k room mid left since held rest filled waiting reads dropped fills some below =
    let long : length filled ≡ length rest + length fills.0 = ap length fills.4 ∙ length-append rest fills.0 in
    let less : length rest ≡ length held - n = ap length dropped ∙ length-drop n held in
    let more = fills.1 in
    omega (arith, long, less, more, some, below)

pub smaller_used : (most count n : ℕ) (held rest : List ℕ) → n ≤ length held → 0 < n → rest ≡ drop n held
    → 2 * (most - count) + length rest < 2 * (most - count) + length held
smaller_used most count n held rest within some dropped =
    let less : length rest ≡ length held - n = ap length dropped ∙ length-drop n held in
    omega (arith, less, within, some)

-- ---- frames that are refused

pub refuses_on : {A W P E : Type 0} (takes : W → Type 0) (step : A → W → List ℤ → P → A → Type 0) (rules : Rules W P E) (most : ℕ)
    (holding then_holding last_holding : List ℕ → List ℕ → Type 0) (start : Progress A) (first mid left : Option (List ℕ)) (count n : ℕ)
    (now : Progress A) (held rest waiting then_waiting last_waiting : List ℕ) (written : Option (List ℕ)) → Fits takes step rules
    → (at : Midway step rules most holding start first mid count now held waiting)
    → ReadsRefused rules then_holding at.since held then_waiting n → Grows now.written written then_waiting
    → ((xs ys : List ℕ) → then_holding xs ys → last_holding xs ys) → last_waiting ≡ [] → rest ≡ drop n held → left ≡ mid
    → Midway step rules most last_holding start first left count (written_so now written) rest last_waiting
refuses_on takes step rules most holding then_holding last_holding start first mid left count n now held rest waiting then_waiting last_waiting written fits at reads grows holds waits dropped same =
    let G : List ℕ → Type 0 = λ l. Grows now.written written l in
    let H : List ℕ → Type 0 = λ l. last_holding l (drop n held) in
    let L : Option (List ℕ) → Type 0 = λ l. Loses first l at.bytes in
    let ran = ran_refused takes step rules now written reads.frames reads.replies fits reads.refused
    (subst G reads.waits grows) in
    record {
      bytes = at.bytes;
      since = drop n held;
      long = at.long;
      below = at.below;
      loses = subst L (sym same) at.loses;
      answered = to_join step rules start now (written_so now written) at.bytes at.since (drop n held) reads.frames
          at.answered reads.are ran;
      holds = subst H (sym dropped) (holds (drop n held) (drop n held) reads.holds);
      waits = waits;
    }

-- a reply couldn't be written
ends_in_part : {A W P E : Type 0} (step : A → W → List ℤ → P → A → Type 0) (rules : Rules W P E) (most : ℕ)
    (start : Progress A) (first left : Option (List ℕ)) (now : Progress A) (bytes : List ℕ) (fault : SinkFault)
    → length bytes < most → Loses first left bytes → AnswersInPart step rules start bytes left now
    → Serves step rules most start first now left (ended_unsent fault)
ends_in_part step rules most start first left now bytes SinkFault.Failed few taken answered =
    record { bytes = bytes; takes = taken; ends = (few, answered) }
ends_in_part step rules most start first left now bytes SinkFault.NoMemory few taken answered =
    record { bytes = bytes; takes = taken; ends = (few, inr answered) }

pub ends_refusing : {A W P E : Type 0} (takes : W → Type 0) (step : A → W → List ℤ → P → A → Type 0) (rules : Rules W P E) (most : ℕ)
    (holding then_holding : List ℕ → List ℕ → Type 0) (start : Progress A) (first mid left : Option (List ℕ)) (count n : ℕ)
    (now : Progress A) (held waiting then_waiting : List ℕ) (written : Option (List ℕ)) (fault : SinkFault) → Fits takes step rules
    → (at : Midway step rules most holding start first mid count now held waiting)
    → ReadsRefused rules then_holding at.since held then_waiting n → WritesFront now.written written then_waiting → left ≡ mid
    → Serves step rules most start first (written_so now written) left (ended_unsent fault)
ends_refusing takes step rules most holding then_holding start first mid left count n now held waiting then_waiting written fault fits at reads front same =
    let F : List ℕ → Type 0 = λ l. WritesFront now.written written l in
    let L : Option (List ℕ) → Type 0 = λ l. Loses first l at.bytes in
    let then = written_so now written in
    let part = stops_refusing takes step rules now written left at.since reads.frames (drop n held) reads.replies fits
    reads.are reads.refused (subst F reads.waits front) in
    ends_in_part step rules most start first left then at.bytes fault
    (below_most step rules most holding start first mid count now held waiting at) (subst L (sym same) at.loses)
    (in_part_join step rules start now then at.bytes at.since left at.answered part)

-- ---- a frame that is answered

takes_read : {A W P E : Type 0} (takes : W → Type 0) (step : A → W → List ℤ → P → A → Type 0) (rules : Rules W P E)
    (meant read : W) → Fits takes step rules → takes meant → (read ≡ meant) ⊎ rules.reads_as meant read → takes read
takes_read {W = W} takes step rules meant read fits may (inl same) =
    let T : W → Type 0 = λ asked. takes asked in subst T (sym same) may
takes_read takes step rules meant read fits may (inr reads) = fits.reads meant read reads

takes_meant : {A W P E : Type 0} (takes : W → Type 0) (step : A → W → List ℤ → P → A → Type 0) (rules : Rules W P E)
    (bytes rest : List ℕ) (meant read : Option (Want W E)) → Fits takes step rules → rules.whole bytes meant rest
    → AreMeant rules meant read → IfSome read (λ want. takes want.asked)
takes_meant takes step rules bytes rest None None fits whole are = tt
takes_meant takes step rules bytes rest None (Some read) fits whole are = absurd are
takes_meant takes step rules bytes rest (Some meant) None fits whole are = absurd are
takes_meant takes step rules bytes rest (Some meant) (Some read) fits whole are =
    takes_read takes step rules meant.asked read.asked fits (fits.whole bytes meant rest whole) are.asked

pub takes_frame : {A W P E : Type 0} (takes : W → Type 0) (step : A → W → List ℤ → P → A → Type 0) (rules : Rules W P E)
    (holding : List ℕ → List ℕ → Type 0) (bytes held waiting : List ℕ) (read : Option (Want W E)) (n : ℕ)
    → Fits takes step rules → ReadsWhole rules holding bytes held waiting read n → IfSome read (λ want. takes want.asked)
takes_frame takes step rules holding bytes held waiting read n fits reads =
    takes_meant takes step rules bytes (drop n held) reads.meant read fits reads.whole reads.are_meant

pub takes_last : {A W P E : Type 0} (takes : W → Type 0) (step : A → W → List ℤ → P → A → Type 0) (rules : Rules W P E)
    (bytes : List ℕ) (frame : Option (Want W E)) → Fits takes step rules → rules.ends bytes frame
    → IfSome frame (λ want. takes want.asked)
takes_last takes step rules bytes None fits ends = tt
takes_last takes step rules bytes (Some want) fits ends = fits.ends bytes want ends

pub goes_of : {A W P E : Type 0} (step : A → W → List ℤ → P → A → Type 0) (rules : Rules W P E) (before after : Progress A)
    (frame : Option (Want W E)) (done : Unit {0}) → AnswersFrame step rules before frame (Ok done) after → GoesOn frame
goes_of step rules before after None done answered = tt
goes_of step rules before after (Some want) done answered = answered.0

-- what was answered is the frame that was meant, after which the session goes on
ran_meant : {A W P E : Type 0} (takes : W → Type 0) (step : A → W → List ℤ → P → A → Type 0) (rules : Rules W P E)
    (before after : Progress A) (meant read : Option (Want W E)) (done : Unit {0}) → Fits takes step rules
    → AreMeant rules meant read → AnswersFrame step rules before read (Ok done) after
    → GoesOn meant × Ran step rules before (meant ∷ []) after
ran_meant takes step rules before after None None done fits are answered = (tt, ran_none step rules before after answered)
ran_meant takes step rules before after None (Some read) done fits are answered = absurd are
ran_meant takes step rules before after (Some meant) None done fits are answered = absurd are
ran_meant takes step rules before after (Some meant) (Some read) done fits are answered = (
  sym are.ends ∙ answered.0,
  ran_one step rules before after meant (tt {0})
      (answers_meant takes step rules before after meant read (Ok (tt {0})) fits are answered.1),
)

pub answers_on : {A W P E : Type 0} (takes : W → Type 0) (step : A → W → List ℤ → P → A → Type 0) (rules : Rules W P E) (most : ℕ)
    (holding then_holding last_holding : List ℕ → List ℕ → Type 0) (start : Progress A) (first mid left : Option (List ℕ)) (count n : ℕ)
    (now then : Progress A) (held rest waiting then_waiting last_waiting : List ℕ) (read : Option (Want W E)) (done : Unit {0})
    → Fits takes step rules → (at : Midway step rules most holding start first mid count now held waiting)
    → ReadsWhole rules then_holding at.since held then_waiting read n → AnswersFrame step rules now read (Ok done) then
    → ((xs ys : List ℕ) → then_holding xs ys → last_holding xs ys) → last_waiting ≡ then_waiting → rest ≡ drop n held
    → left ≡ mid → Midway step rules most last_holding start first left count then rest last_waiting
answers_on takes step rules most holding then_holding last_holding start first mid left count n now then held rest waiting then_waiting last_waiting read done fits at reads answered holds waits dropped same =
    let H : List ℕ → Type 0 = λ l. last_holding l (drop n held) in
    let L : Option (List ℕ) → Type 0 = λ l. Loses first l at.bytes in
    let ran = ran_meant takes step rules now then reads.meant read done fits reads.are_meant answered in
    record {
      bytes = at.bytes;
      since = drop n held;
      long = at.long;
      below = at.below;
      loses = subst L (sym same) at.loses;
      answered = to_join step rules start now then at.bytes at.since (drop n held) (reads.meant ∷ []) at.answered
          (frames_one rules at.since reads.meant (drop n held) reads.whole ran.0) ran.1;
      holds = subst H (sym dropped) (holds (drop n held) (drop n held) reads.holds);
      waits = waits ∙ reads.waits;
    }

cut_off : {A W P E : Type 0} (takes : W → Type 0) (step : A → W → List ℤ → P → A → Type 0) (rules : Rules W P E)
    (start : Progress A) (left : Option (List ℕ)) (now then : Progress A) (bytes since rest : List ℕ)
    (meant read : Want W E) (fault : SinkFault) → Fits takes step rules
    → AnswersTo step rules start bytes since now → rules.whole since (Some meant) rest → IsMeant rules meant read
    → AnswersWant step rules now read (Err fault) then → AnswersInPart step rules start bytes left then
cut_off takes step rules start left now then bytes since rest meant read fault fits before whole are answered =
    in_part_join step rules start now then bytes since left before (
      [],
      since,
      meant,
      refl,
      inl (rest, whole),
      stopped_one step rules now then meant fault
          (answers_meant takes step rules now then meant read (Err fault) fits are answered),
    )

-- how serving ends with a frame that was answered
ends_by : {A W P E : Type 0} (takes : W → Type 0) (step : A → W → List ℤ → P → A → Type 0) (rules : Rules W P E) (most : ℕ)
    (start : Progress A) (left : Option (List ℕ)) (now then : Progress A) (bytes since rest : List ℕ)
    (meant read : Option (Want W E)) (ended : Ended E) → Fits takes step rules → length bytes < most
    → AnswersTo step rules start bytes since now → rules.whole since meant rest → AreMeant rules meant read
    → AnswersFrame step rules now read (Err ended) then → EndsWith step rules most ended start bytes left then
ends_by takes step rules most start left now then bytes since rest None None ended fits few before whole are answered =
    absurd answered
ends_by takes step rules most start left now then bytes since rest None (Some read) ended fits few before whole are answered =
    absurd are
ends_by takes step rules most start left now then bytes since rest (Some meant) None ended fits few before whole are answered =
    absurd are
ends_by takes step rules most start left now then bytes since rest (Some meant) (Some read) Ended.AtEnd fits few before whole are answered =
    absurd answered
ends_by takes step rules most start left now then bytes since rest (Some meant) (Some read) (Ended.By end) fits few before whole are answered = (
  few,
  (
    before.0,
    since,
    meant,
    rest,
    before.1,
    whole,
    sym are.ends ∙ answered.0,
    ran_join step rules start now then before.0 (Some meant ∷ []) before.2
        (ran_one step rules now then meant (tt {0})
        (answers_meant takes step rules now then meant read (Ok (tt {0})) fits are answered.1)),
  ),
)
ends_by takes step rules most start left now then bytes since rest (Some meant) (Some read) Ended.ReadFault fits few before whole are answered =
    absurd answered
ends_by takes step rules most start left now then bytes since rest (Some meant) (Some read) Ended.WriteFault fits few before whole are answered =
    (few, cut_off takes step rules start left now then bytes since rest meant read SinkFault.Failed fits before whole are answered)
ends_by takes step rules most start left now then bytes since rest (Some meant) (Some read) Ended.InputLimit fits few before whole are answered =
    absurd answered
ends_by takes step rules most start left now then bytes since rest (Some meant) (Some read) Ended.NoMemory fits few before whole are answered =
    (few, inr (cut_off takes step rules start left now then bytes since rest meant read SinkFault.NoMemory fits before whole are answered))

pub ends_answering : {A W P E : Type 0} (takes : W → Type 0) (step : A → W → List ℤ → P → A → Type 0) (rules : Rules W P E) (most : ℕ)
    (holding then_holding : List ℕ → List ℕ → Type 0) (start : Progress A) (first mid left : Option (List ℕ)) (count n : ℕ)
    (now then : Progress A) (held waiting then_waiting : List ℕ) (read : Option (Want W E)) (ended : Ended E)
    → Fits takes step rules → (at : Midway step rules most holding start first mid count now held waiting)
    → ReadsWhole rules then_holding at.since held then_waiting read n → AnswersFrame step rules now read (Err ended) then
    → left ≡ mid → Serves step rules most start first then left ended
ends_answering takes step rules most holding then_holding start first mid left count n now then held waiting then_waiting read ended fits at reads answered same =
    let L : Option (List ℕ) → Type 0 = λ l. Loses first l at.bytes in
    record {
      bytes = at.bytes;
      takes = subst L (sym same) at.loses;
      ends = ends_by takes step rules most start left now then at.bytes at.since (drop n held) reads.meant read ended fits
          (below_most step rules most holding start first mid count now held waiting at) at.answered reads.whole
          reads.are_meant answered;
    }

-- answering a frame never ends with a failed read
pub frame_unread : {A W P E : Type 0} (step : A → W → List ℤ → P → A → Type 0) (rules : Rules W P E) (before after : Progress A)
    (frame : Option (Want W E)) → AnswersFrame step rules before frame (Err Ended.ReadFault) after → ⊥
frame_unread step rules before after None answered = answered
frame_unread step rules before after (Some want) answered = answered

-- ---- the end of the input

length-none : (xs : List ℕ) → length xs ≡ 0 → xs ≡ []
length-none [] is = refl
length-none (x ∷ xs) is = absurd (omega (arith, is))

last_cut : {A W P E : Type 0} (step : A → W → List ℤ → P → A → Type 0) (rules : Rules W P E)
    (start : Progress A) (left : Option (List ℕ)) (now then : Progress A) (bytes since : List ℕ) (want : Want W E)
    (fault : SinkFault) → IsAtEnd left → AnswersTo step rules start bytes since now → rules.begun since
    → rules.ends since (Some want) → AnswersWant step rules now want (Err fault) then
    → AnswersInPart step rules start bytes left then
last_cut step rules start left now then bytes since want fault ended before begun ends answered =
    in_part_join step rules start now then bytes since left before
    ([], since, want, refl, inr (ended, begun, ends), stopped_one step rules now then want fault answered)

-- how serving ends with what was left
ends_after : {A W P E : Type 0} (step : A → W → List ℤ → P → A → Type 0) (rules : Rules W P E) (most : ℕ)
    (start : Progress A) (left : Option (List ℕ)) (now then : Progress A) (bytes since : List ℕ) (frame : Option (Want W E))
    (ended : Ended E) → length bytes < most → IsAtEnd left → AnswersTo step rules start bytes since now → rules.begun since
    → rules.ends since frame → AnswersLast step rules now frame ended then
    → EndsWith step rules most ended start bytes left then
ends_after step rules most start left now then bytes since None Ended.AtEnd few ended before begun ends answered = (
  few,
  ended,
  (before.0, since, None, before.1, begun, ends, ran_join step rules start now then before.0 (None ∷ []) before.2 (ran_none step rules now then answered)),
)
ends_after step rules most start left now then bytes since None (Ended.By end) few ended before begun ends answered = absurd answered
ends_after step rules most start left now then bytes since None Ended.ReadFault few ended before begun ends answered = absurd answered
ends_after step rules most start left now then bytes since None Ended.WriteFault few ended before begun ends answered = absurd answered
ends_after step rules most start left now then bytes since None Ended.InputLimit few ended before begun ends answered = absurd answered
ends_after step rules most start left now then bytes since None Ended.NoMemory few ended before begun ends answered = absurd answered
ends_after step rules most start left now then bytes since (Some want) Ended.AtEnd few ended before begun ends answered = (
  few,
  ended,
  (
    before.0,
    since,
    Some want,
    before.1,
    begun,
    ends,
    ran_join step rules start now then before.0 (Some want ∷ []) before.2 (ran_one step rules now then want (tt {0}) answered),
  ),
)
ends_after step rules most start left now then bytes since (Some want) (Ended.By end) few ended before begun ends answered = absurd answered
ends_after step rules most start left now then bytes since (Some want) Ended.ReadFault few ended before begun ends answered = absurd answered
ends_after step rules most start left now then bytes since (Some want) Ended.WriteFault few ended before begun ends answered =
    (few, last_cut step rules start left now then bytes since want SinkFault.Failed ended before begun ends answered)
ends_after step rules most start left now then bytes since (Some want) Ended.InputLimit few ended before begun ends answered = absurd answered
ends_after step rules most start left now then bytes since (Some want) Ended.NoMemory few ended before begun ends answered =
    (few, inr (last_cut step rules start left now then bytes since want SinkFault.NoMemory ended before begun ends answered))

pub ends_last : {A W P E : Type 0} (step : A → W → List ℤ → P → A → Type 0) (rules : Rules W P E) (most : ℕ)
    (holding then_holding : List ℕ → List ℕ → Type 0) (start : Progress A) (first mid left then_left : Option (List ℕ)) (count n k room : ℕ)
    (now then : Progress A) (held rest filled waiting then_waiting : List ℕ) (written : Option (List ℕ))
    (frame : Option (Want W E)) (ended : Ended E) → WholeOn rules
    → (at : Midway step rules most holding start first mid count now held waiting)
    → ReadsMore rules then_holding at.since held then_waiting n → (fills : Fills mid left rest filled k room)
    → written ≡ now.written → k ≡ 0 → rules.ends (at.since ++ fills.0) frame
    → AnswersLast step rules (written_so now written) frame ended then → then_left ≡ left
    → Serves step rules most start first then then_left ended
ends_last {A} step rules most holding then_holding start first mid left then_left count n k room now then held rest filled waiting then_waiting written frame ended on at reads fills same none ends answered kept =
    let empty : fills.0 ≡ [] = length-none fills.0 (fills.1 ∙ none) in
    let B : List ℕ → Type 0 = λ l. rules.begun (at.since ++ l) in
    let C : List ℕ → Type 0 = λ l. rules.begun l in
    let A : Option (List ℕ) → Type 0 = λ w. AnswersLast step rules (written_so now w) frame ended then in
    let S : Option (List ℕ) → Type 0 = λ l. Serves step rules most start first then l ended in
    let long = at.long in
    let below = at.below in
    let more = fills.1 in
    let few : length (at.bytes ++ fills.0) < most = omega (arith, long, below, more, none, length-append at.bytes fills.0) in
    subst S (sym kept) (record {
      bytes = at.bytes ++ fills.0;
      takes = Loses-join first mid left at.bytes fills.0 at.loses fills.3;
      ends = ends_after step rules most start left now then (at.bytes ++ fills.0) (at.since ++ fills.0) frame ended few
          (fills.5 none) (to_more step rules start now at.bytes at.since fills.0 on at.answered)
          (subst B (sym empty) (subst C (sym (append-nil at.since)) reads.begun)) ends (subst A same answered);
    })
