-- What serving over a hall does.
use Rattle.std.proofs.Common.{◌≡◌, ℕ, ℤ, List, [], Option, inl, refl, sym, subst, arith}
use Rattle.lei_outside.proofs.Told.{Loses-none}
use Rattle.lei_office.specs.Answering.{MayBeAsked}
use Rattle.request_loop.specs.Frames.{Fits}
use Rattle.request_loop.specs.Serving as any
use Rattle.request_loop.specs.declared.frames.Ended.TheVariants as loop
use Rattle.request_loop.proofs.Running.{ran_nothing}
use Rattle.lei_hall.specs.Calling.{AskTurn, IsSamePass}
use Rattle.lei_hall.specs.Passes.{HallPass}
use Rattle.lei_hall.proofs.Callers.{caller_fits, serves_keep, session_grew, session_same}
use Rattle.issuer_http.specs.Callers.{ServesCaller}
use Rattle.issuer_http.specs.Frames.{http_rules}
use Rattle.issuer_http.specs.Serving.{CompletesBy, ServesBy, connection_limit}
use Rattle.issuer_http.specs.declared.ended.Ended.{Ended}
use Rattle.issuer_http.proofs.Offices.{frame_asked}

-- requests fit a caller, even if something more is known of the caller
pub http_fits_caller : (Known : Type 0) → Known → Fits (λ asked. MayBeAsked asked × Known) AskTurn http_rules
http_fits_caller Known known =
    caller_fits Known http_rules known frame_asked (λ bytes want is. cc) (λ meant read is. is) (λ asked reply is. absurd is)

-- what is true of the pass
pub caller_serves : (before after : any.Progress HallPass) (left left_now : Option (List ℕ)) (ended : Ended)
    → ServesBy AskTurn before left after left_now ended → ServesCaller before left after left_now ended
caller_serves before after left left_now ended (end, is, serves) = record {
  serves = (end, is, serves);
  same = serves_keep AskTurn http_rules IsSamePass session_same connection_limit before left after left_now end serves;
  grew = session_grew before.who after.who;
}

-- the same if the pass is returned
pub comes_back : (before : any.Progress HallPass) (who back : HallPass) (given : Option (List ℤ)) (written left left_now : Option (List ℕ)) (ended : Ended)
    → back ≡ who → ServesCaller before left (any.progress who given written) left_now ended
    → ServesCaller before left (any.progress back given written) left_now ended
comes_back before who back given written left left_now ended same serves =
    subst (λ (p : HallPass). ServesCaller before left (any.progress p given written) left_now ended) (sym same) serves

pub completes_back : (before : any.Progress HallPass) (who back : HallPass) (given : Option (List ℤ)) (written : Option (List ℕ)) (bytes : List ℕ) (ended : Ended)
    → back ≡ who → CompletesBy AskTurn ended before bytes (any.progress who given written)
    → CompletesBy AskTurn ended before bytes (any.progress back given written)
completes_back before who back given written bytes ended same completes =
    subst (λ (p : HallPass). CompletesBy AskTurn ended before bytes (any.progress p given written)) (sym same) completes

-- memory ran out at the start
unbegun_call : (at : any.Progress HallPass) (left : Option (List ℕ)) → ServesCaller at left at left Ended.NoMemory
unbegun_call at left = caller_serves at at left left Ended.NoMemory (
  loop.NoMemory,
  refl,
  record {
    bytes = [];
    takes = Loses-none left;
    ends = (omega arith, inl ([], ([], refl, ran_nothing AskTurn http_rules at), inl refl));
  },
)

pub unbegun_back : (who back : HallPass) (given : Option (List ℤ)) (written left : Option (List ℕ)) → back ≡ who
    → ServesCaller (any.progress who given written) left (any.progress back given written) left Ended.NoMemory
unbegun_back who back given written left same =
    subst (λ (p : HallPass). ServesCaller (any.progress who given written) left (any.progress p given written) left Ended.NoMemory) (sym same)
    (unbegun_call (any.progress who given written) left)
