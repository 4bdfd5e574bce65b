-- How a run over lines ends, by how serving them ended.
use Rattle.std.proofs.Common.{◌≡◌, ◌⊎◌, ◌<◌, ℕ, List, length, Option, inl, inr, refl}
use Rattle.std.specs.Str.Lines.{lines}
use Rattle.lei_values.specs.KeptTables.{KeptTables}
use Rattle.lei_outside.specs.Told.{Loses}
use Rattle.register_history.specs.Kept.{Keeps}
use Rattle.request_loop.specs.Serving.{Progress, Serves}
use Rattle.request_loop.specs.Serving as serving
use Rattle.request_loop.specs.declared.frames.Ended.{Ended}
use Rattle.lei_office.specs.Answering.{CountedOffice, OfficeStep}
use Rattle.lei_office.proofs.Sessions.{office_counts, office_session}
use Rattle.line_reading.specs.LineFrames.{line_rules}
use Rattle.line_reading.specs.LineRuns.{AnsweredFront, AnsweredLines, asks_of_lines}
use Rattle.line_reading.specs.Lines.{Line, whole_part}
use Rattle.line_reading.specs.Replies.{reply_texts}
use Rattle.line_reading.specs.declared.framing.NoEnd.{NoEnd}
use Rattle.line_reading.proofs.LineRuns.{AnsweredSome, all_front, answered_all, answered_in_part, answered_to_end}
use Rattle.line_service.specs.Ends.{AnswersLines, AnswersSome, EndsRunWith, RunsFrom, StopsWriting}
use Rattle.line_service.specs.Outside.{Course, Outside, outside}
use Rattle.line_reading.specs.Inputs.{run_limit}
use Rattle.line_reading.specs.Status.{end_status, ended_as}
use Rattle.line_service.proofs.Fitting.{reads_office}

-- ---- a run

-- the outside at this progress of serving, with these bytes left
abbrev pub outside_at : Option (List ℕ) → Option KeptTables → Progress CountedOffice → Outside
outside_at left kept at = outside left at.given at.written kept at.who.faults

-- the course if all these lines were answered
abbrev course_of : (start now : Progress CountedOffice) (read : List ℕ)
    (all : List Line) → AnsweredLines OfficeStep start all now → Course
course_of start now read all answered = record {
  first = start.who.office;
  read = read;
  moments = answered.moments;
  replies = answered.replies;
  written = reply_texts (asks_of_lines all) answered.replies;
  last = now.who.office;
}

-- the course if only a prefix of these lines was answered
abbrev cut_course : (start now : Progress CountedOffice) (read : List ℕ)
    (all : List Line) → AnsweredFront OfficeStep start all now → Course
cut_course start now read all answered = record {
  first = start.who.office;
  read = read;
  moments = answered.moments;
  replies = answered.replies;
  written = answered.texts;
  last = now.who.office;
}

runs_lines : (start now : Progress CountedOffice)
    (left left_now : Option (List ℕ)) (told kept : Option KeptTables) (read : List ℕ) (all : List Line) (status : ℕ)
    → Loses left left_now read → Keeps kept now.who.office
    → (answered : AnsweredLines OfficeStep start all now)
    → (AnswersLines all (course_of start now read all answered)
    → EndsRunWith status (course_of start now read all answered) (outside_at left_now kept now))
    → RunsFrom start.who.office (outside_at left told start) (outside_at left_now kept now) status
runs_lines start now left left_now told kept read all status loses keeps answered ends =
    let asks = asks_of_lines all in
    record {
      course = course_of start now read all answered;
      first = refl;
      leads = record {
        reads = loses;
        gives = answered.gives;
        writes = answered.writes;
        keeps = keeps;
        refuses = office_counts start.who now.who asks answered.moments answered.replies
            answered.session;
      };
      ends = ends (record {
        session = office_session start.who now.who asks answered.moments answered.replies
            answered.session;
        texts = refl;
      });
    }

runs_front : (start now : Progress CountedOffice)
    (left left_now : Option (List ℕ)) (told kept : Option KeptTables) (read : List ℕ) (all : List Line) (status : ℕ)
    → Loses left left_now read → Keeps kept now.who.office
    → (answered : AnsweredFront OfficeStep start all now)
    → (AnswersSome all (cut_course start now read all answered)
    → EndsRunWith status (cut_course start now read all answered) (outside_at left_now kept now))
    → RunsFrom start.who.office (outside_at left told start) (outside_at left_now kept now) status
runs_front start now left left_now told kept read all status loses keeps answered ends =
    let asks = asks_of_lines answered.front in
    record {
      course = cut_course start now read all answered;
      first = refl;
      leads = record {
        reads = loses;
        gives = answered.gives;
        writes = answered.writes;
        keeps = keeps;
        refuses = office_counts start.who now.who asks answered.moments answered.replies
            answered.session;
      };
      ends = ends (
        answered.front,
        answered.rest,
        answered.parts,
        record {
          session = office_session start.who now.who asks answered.moments answered.replies
              answered.session;
          texts = answered.are_texts;
        },
      );
    }

-- ---- by how serving ended

abbrev pub IsCause : ℕ → Type 0
IsCause status = (status ≡ 4) ⊎ (status ≡ 6)

stops_so : (status : ℕ) (course : Course) (after : Outside) → IsCause status → StopsWriting course after
    → EndsRunWith status course after
stops_so status course after (inl is) stops = inr (inr (inl (is, stops)))
stops_so status course after (inr is) stops = inr (inr (inr (inl (is, stops))))

-- some lines were answered, and then a write failed or memory ran out
runs_some : (start now : Progress CountedOffice)
    (left left_now : Option (List ℕ)) (told kept : Option KeptTables) (read : List ℕ) (status : ℕ)
    → Loses left left_now read → Keeps kept now.who.office
    → length read < run_limit → IsCause status → AnsweredSome OfficeStep start read left_now now
    → RunsFrom start.who.office (outside_at left told start) (outside_at left_now kept now) status
runs_some start now left left_now told kept read status loses keeps short cause (inl front) =
    let all = lines (whole_part read) in
    runs_front start now left left_now told kept read all status loses keeps front
    (λ some. stops_so status (cut_course start now read all front) (outside_at left_now kept now) cause
    (short, inl some))
runs_some start now left left_now told kept read status loses keeps short cause (inr (ended, front)) =
    let all = lines read in
    runs_front start now left left_now told kept read all status loses keeps front
    (λ some. stops_so status (cut_course start now read all front) (outside_at left_now kept now) cause
    (short, inr (ended, some)))

runs_by : (start now : Progress CountedOffice)
    (left left_now : Option (List ℕ)) (told kept : Option KeptTables) (read : List ℕ) (ended : Ended NoEnd)
    → Loses left left_now read → Keeps kept now.who.office
    → serving.EndsWith OfficeStep line_rules run_limit ended start read left_now now
    → RunsFrom start.who.office (outside_at left told start) (outside_at left_now kept now)
    (end_status (ended_as ended))
runs_by start now left left_now told kept read Ended.AtEnd loses keeps (short, at_end, all) =
    runs_lines start now left left_now told kept read (lines read) 0 loses keeps
    (answered_to_end OfficeStep start now read reads_office all) (λ answers. inl (refl, (short, at_end, answers)))
runs_by start now left left_now told kept read (Ended.By end) loses keeps ends = elim end [ ]
runs_by start now left left_now told kept read Ended.ReadFault loses keeps (short, all) =
    runs_lines start now left left_now told kept read (lines (whole_part read)) 3 loses keeps
    (answered_all OfficeStep start now read all) (λ answers. inr (inl (refl, (short, answers))))
runs_by start now left left_now told kept read Ended.WriteFault loses keeps (short, part) =
    runs_some start now left left_now told kept read 4 loses keeps short (inl refl)
    (answered_in_part OfficeStep start now read left_now reads_office part)
runs_by start now left left_now told kept read Ended.InputLimit loses keeps
    (before, last, parts, long, some, few, all) =
    runs_lines start now left left_now told kept read (lines (whole_part before)) 8 loses keeps
    (answered_all OfficeStep start now before all)
    (λ answers. inr (inr (inr (inr (refl, (before, last, parts, long, some, few, answers))))))
runs_by start now left left_now told kept read Ended.NoMemory loses keeps (short, inl all) =
    runs_some start now left left_now told kept read 6 loses keeps short (inr refl)
    (inl (all_front OfficeStep start now (lines (whole_part read)) (answered_all OfficeStep start now read all)))
runs_by start now left left_now told kept read Ended.NoMemory loses keeps (short, inr part) =
    runs_some start now left left_now told kept read 6 loses keeps short (inr refl)
    (answered_in_part OfficeStep start now read left_now reads_office part)

pub runs_served : (start now : Progress CountedOffice)
    (left left_now : Option (List ℕ)) (told kept : Option KeptTables) (ended : Ended NoEnd)
    → Serves OfficeStep line_rules run_limit start left now left_now ended
    → Keeps kept now.who.office
    → RunsFrom start.who.office (outside_at left told start) (outside_at left_now kept now)
    (end_status (ended_as ended))
runs_served start now left left_now told kept ended serves keeps =
    runs_by start now left left_now told kept serves.bytes ended serves.takes keeps serves.ends
