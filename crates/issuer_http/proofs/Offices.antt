-- What serving an office does.
use Rattle.std.proofs.Common.{ℕ, List, [], Option, Some, inl, inr, refl, sym, subst, arith}
use Rattle.lei_office.specs.Answering.{CountedOffice, MayBeAsked, OfficeStep, StepsBy}
use Rattle.lei_office.proofs.Sessions.{office_counts, office_exact, office_fits, serves_untold}
use Rattle.lei_outside.proofs.Told.{Loses-none}
use Rattle.register_words.specs.declared.request.Asked.{Asked}
use Rattle.request_loop.specs.Frames.{Fits}
use Rattle.request_loop.specs.Serving as any
use Rattle.request_loop.specs.declared.frames.Ended.TheVariants as loop
use Rattle.request_loop.specs.declared.frames.Want.{Want}
use Rattle.request_loop.proofs.Parts.{completes_of, progress_of, serves_of}
use Rattle.request_loop.proofs.Running.{ran_nothing}
use Rattle.issuer_http.specs.Frames.{IsFrame, http_rules}
use Rattle.issuer_http.specs.Serving.{CompletesBy, CompletesHttp, HttpProgress, ServesBy, ServesHttp, connection_limit}
use Rattle.issuer_http.specs.declared.ended.Ended.{Ended}
use Rattle.issuer_http.specs.declared.ended.HttpEnd.{HttpEnd}
use Rattle.issuer_http.proofs.Ranging.{refusal_asked, request_asked}

-- ---- what requests ask may be put to an office

pub frame_asked : (bytes : List ℕ) (want : Want Asked HttpEnd) (rest : List ℕ) → IsFrame bytes (Some want) rest
    → MayBeAsked want.asked
frame_asked bytes want rest (inl (head, read, is, after)) =
    let M : Want Asked HttpEnd → Type 0 = λ w. MayBeAsked w.asked in subst M (sym is) (request_asked bytes head)
frame_asked bytes want rest (inr (fault, read, is, after)) =
    let M : Want Asked HttpEnd → Type 0 = λ w. MayBeAsked w.asked in subst M (sym is) (refusal_asked bytes fault read)

-- so requests fit anyone who has an office, even if something more is known
pub http_fits : {A : Type 0} (Known : Type 0) (part : A → CountedOffice) → Known
    → Fits (λ asked. MayBeAsked asked × Known) (StepsBy part) http_rules
http_fits Known part known =
    office_fits Known part http_rules known frame_asked (λ bytes want is. cc) (λ meant read is. is) (λ asked reply is. absurd is)

-- ---- what serving does

-- for an office: what holds for the replies of any session
serves_office : (before after : HttpProgress) (left left_now : Option (List ℕ)) (ended : Ended)
    → ServesBy OfficeStep before left after left_now ended → ServesHttp before left after left_now ended
serves_office before after left left_now ended serves = record {
  serves = serves;
  untold = serves_untold (λ (who : CountedOffice). who) http_rules connection_limit serves.0 before after left left_now serves.2;
  refuses = office_counts before.who after.who;
  exact = office_exact before.who after.who;
}

-- by the steps of anyone who has an office
pub office_serves : {A : Type 0} (part : A → CountedOffice) (before after : any.Progress A) (left left_now : Option (List ℕ))
    (ended : Ended) → ServesBy (StepsBy part) before left after left_now ended
    → ServesHttp (progress_of part before) left (progress_of part after) left_now ended
office_serves part before after left left_now ended (end, is, serves) =
    serves_office (progress_of part before) (progress_of part after) left left_now ended (
      end,
      is,
      serves_of (StepsBy part) part OfficeStep http_rules (λ old new ask moments reply step. step) connection_limit end before after
          left left_now serves,
    )

pub office_completes : {A : Type 0} (part : A → CountedOffice) (before after : any.Progress A) (ended : Ended)
    (bytes : List ℕ) → CompletesBy (StepsBy part) ended before bytes after
    → CompletesHttp ended (progress_of part before) bytes (progress_of part after)
office_completes part before after ended bytes (end, is, completes) = (
  end,
  is,
  completes_of (StepsBy part) part OfficeStep http_rules (λ old new ask moments reply step. step) connection_limit end before after
      bytes completes,
)

-- memory ran out at the start
pub unbegun : (at : HttpProgress) (left : Option (List ℕ)) → ServesHttp at left at left Ended.NoMemory
unbegun at left = serves_office at at left left Ended.NoMemory (
  loop.NoMemory,
  refl,
  record {
    bytes = [];
    takes = Loses-none left;
    ends = (omega arith, inl ([], ([], refl, ran_nothing OfficeStep http_rules at), inl refl));
  },
)
