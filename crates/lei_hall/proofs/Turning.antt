-- A turn at the turnstile as a turn of the hall.
use Rattle.std.proofs.Common.{◌≡◌, ℕ, ℤ, Option, Some, refl, sym, ap, ◌∙◌, subst}
use Rattle.lei_values.specs.KeptTables.{KeptTables}
use Rattle.lei_values.specs.declared.entry.KeptEntry.{KeptEntry}
use Rattle.register_words.specs.declared.limits.Limits.{Limits}
use Rattle.register_words.specs.declared.reply.Reply.{Reply}
use Rattle.register_words.specs.declared.request.Request.{Request}
use Rattle.register_history.specs.Legal.{Legal}
use Rattle.register_history.specs.Replies.{Step}
use Rattle.register_history.specs.State.{OfficeState, office_of}
use Rattle.turnstile.specs.Meaning.{Meaning, meaning}
use Rattle.turnstile.specs.Passes.{IsTurn}
use Rattle.lei_hall.specs.declared.answers.Told.{Told}
use Rattle.lei_hall.specs.Passes.{HallPass, ReportsSo, SlotView, limits_of, numbers_of, told}
use Rattle.lei_hall.specs.Turns.{AnswersRequest, Turn}

-- The turn of a pass at the turnstile that put a request to the office is a turn of the hall.
pub turned : {K : Type 0} (tables : K → Option KeptTables) (faults : K → ℕ) (before after : HallPass) (x y : SlotView K) (request : Request) (moment : ℤ) (reply : Reply)
    → AnswersRequest faults x.office request moment reply y.office
    → IsTurn (meaning (λ s. s.office.office.history) (λ s. faults s.office.keeper) (λ s. numbers_of s.office.office.limits (tables s.opened.keeper)) 1 ReportsSo)
    before (Some (told request moment reply)) x y after
    → Turn before request moment reply after
turned {K} tables faults before after x y request moment reply answers turn =
    let limits : x.office.office.limits ≡ limits_of before.stays = ap limits_of turn.stays in
    let old : x.office.office ≡ office_of (limits_of before.stays) x.office.office.history = ap (λ (l : Limits). office_of l x.office.office.history) limits in
    let new : y.office.office ≡ office_of (limits_of before.stays) y.office.office.history =
    ap (λ (l : Limits). office_of l y.office.office.history) (answers.adds.0 ∙ limits) in
    let T : HallPass → Type 0 = λ p. Turn before request moment reply p in
    subst T (sym turn.after_is) (record {
      history = x.office.office.history;
      from = faults x.office.keeper;
      to = faults y.office.keeper;
      seen = turn.seen;
      front = turn.turn.list;
      step = subst (λ (o : OfficeState). Step o request moment reply (office_of (limits_of before.stays) y.office.office.history)) old
          (subst (λ (o : OfficeState). Step x.office.office request moment reply o) new answers.step);
      legal = subst Legal new answers.legal;
      told = refl;
      mine = refl;
      later = turn.told;
      faults = answers.count;
      fault = answers.fault;
      table = refl;
      number = refl;
      limits = refl;
    })

-- The same, if the answer has the request and the moment, and the values that were lent and returned are the turn's.
pub turned_by : {K : Type 0} (tables : K → Option KeptTables) (faults : K → ℕ) (before after : HallPass) (x y lent back : SlotView K) (asked request : Request) (at moment : ℤ) (reply : Reply)
    → lent ≡ x → back ≡ y → asked ≡ request → at ≡ moment → AnswersRequest faults lent.office request moment reply back.office
    → IsTurn (meaning (λ s. s.office.office.history) (λ s. faults s.office.keeper) (λ s. numbers_of s.office.office.limits (tables s.opened.keeper)) 1 ReportsSo)
    before (Some (told asked at reply)) x y after
    → Turn before request moment reply after
turned_by {K} tables faults before after x y lent back asked request at moment reply lends leaves same_request same_moment answers turn =
    let m : Meaning (SlotView K) KeptEntry Told =
    meaning (λ s. s.office.office.history) (λ s. faults s.office.keeper) (λ s. numbers_of s.office.office.limits (tables s.opened.keeper)) 1 ReportsSo in
    let left : AnswersRequest faults x.office request moment reply back.office =
    subst (λ (s : SlotView K). AnswersRequest faults s.office request moment reply back.office) lends answers in
    let both : AnswersRequest faults x.office request moment reply y.office =
    subst (λ (s : SlotView K). AnswersRequest faults x.office request moment reply s.office) leaves left in
    let asks : IsTurn m before (Some (told request at reply)) x y after =
    subst (λ (r : Request). IsTurn m before (Some (told r at reply)) x y after) same_request turn in
    let comes : IsTurn m before (Some (told request moment reply)) x y after =
    subst (λ (z : ℤ). IsTurn m before (Some (told request z reply)) x y after) same_moment asks in
    turned tables faults before after x y request moment reply both comes
