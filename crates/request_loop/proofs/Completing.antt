-- The result of serving a wire that doesn't fail.
use Rattle.std.proofs.Common.{◌≡◌, ℕ, ℤ, ◌≤◌, List, ◌++◌, length, Option, None, Some, refl, sym, ap, ◌∙◌, subst, arith, length-append}
use Rattle.std.proofs.lemmas.List.{append-nil}
use Rattle.lei_outside.specs.Told.{IsAtEnd, Loses}
use Rattle.request_loop.specs.Frames.{Rules}
use Rattle.request_loop.specs.Serving.{AnswersToLast, Completes, EndsWith, Progress, Serves}
use Rattle.request_loop.specs.declared.frames.Ended.{Ended}
use Rattle.request_loop.proofs.Ending.{WholeOn}
use Rattle.request_loop.proofs.FrameLists.{frames_more}

-- if told bytes are taken to their end, they are the bytes that were taken
told_taken : (bytes taken : List ℕ) (left : Option (List ℕ)) → Loses (Some bytes) left taken → IsAtEnd left → taken ≡ bytes
told_taken bytes taken None loses ended = absurd loses
told_taken bytes taken (Some left) loses ended = sym (loses ∙ (ap (λ (l : List ℕ). taken ++ l) ended ∙ append-nil taken))

-- what was answered in bytes was answered in more bytes that start with them
last_more : {A W P E : Type 0} (step : A → W → List ℤ → P → A → Type 0) (rules : Rules W P E) (end : E)
    (start now : Progress A) (bytes taken : List ℕ) (left : Option (List ℕ)) → WholeOn rules → Loses (Some bytes) left taken
    → AnswersToLast step rules end start taken now → AnswersToLast step rules end start bytes now
last_more step rules end start now bytes taken None on loses answered = absurd loses
last_more step rules end start now bytes taken (Some left) on loses (frames, rest, want, after, are, whole, ends, ran) =
    let L : List ℕ → Type 0 = λ l. AnswersToLast step rules end start l now in
    subst L (sym loses) (
      frames,
      rest ++ left,
      want,
      after ++ left,
      frames_more rules on taken left frames rest are,
      on rest after left (Some want) whole,
      ends,
      ran,
    )

at_limit : (most : ℕ) (bytes taken : List ℕ) (left : Option (List ℕ)) → Loses (Some bytes) left taken
    → length taken ≡ most → most ≤ length bytes
at_limit most bytes taken None loses full = absurd loses
at_limit most bytes taken (Some left) loses full =
    let whole : length bytes ≡ length (taken ++ left) = ap length loses in
    omega (arith, whole, full, length-append taken left)

ends_so : {A W P E : Type 0} (step : A → W → List ℤ → P → A → Type 0) (rules : Rules W P E) (most : ℕ) (ended : Ended E)
    (start now : Progress A) (bytes taken : List ℕ) (left : Option (List ℕ)) → WholeOn rules → Loses (Some bytes) left taken
    → EndsWith step rules most ended start taken left now → ¬ (ended ≡ Ended.ReadFault) → ¬ (ended ≡ Ended.WriteFault)
    → ¬ (ended ≡ Ended.NoMemory) → Completes step rules most ended start bytes now
ends_so step rules most Ended.AtEnd start now bytes taken left on loses ends no_read no_write no_want =
    let C : List ℕ → Type 0 = λ l. Completes step rules most Ended.AtEnd start l now in
    subst C (told_taken bytes taken left loses ends.1) (ends.0, ends.2)
ends_so step rules most (Ended.By end) start now bytes taken left on loses ends no_read no_write no_want =
    last_more step rules end start now bytes taken left on loses ends.1
ends_so step rules most Ended.ReadFault start now bytes taken left on loses ends no_read no_write no_want =
    absurd (no_read refl)
ends_so step rules most Ended.WriteFault start now bytes taken left on loses ends no_read no_write no_want =
    absurd (no_write refl)
ends_so step rules most Ended.InputLimit start now bytes taken left on loses ends no_read no_write no_want =
    at_limit most bytes taken left loses ends.3
ends_so step rules most Ended.NoMemory start now bytes taken left on loses ends no_read no_write no_want =
    absurd (no_want refl)

pub completes : {A W P E : Type 0} (step : A → W → List ℤ → P → A → Type 0) (rules : Rules W P E) (most : ℕ)
    (ended : Ended E) (start now : Progress A) (left left_now : Option (List ℕ)) (bytes : List ℕ) → WholeOn rules
    → left ≡ Some bytes → Serves step rules most start left now left_now ended → ¬ (ended ≡ Ended.ReadFault)
    → ¬ (ended ≡ Ended.WriteFault) → ¬ (ended ≡ Ended.NoMemory) → Completes step rules most ended start bytes now
completes step rules most ended start now left left_now bytes on is serves no_read no_write no_want =
    let L : Option (List ℕ) → Type 0 = λ l. Loses l left_now serves.bytes in
    ends_so step rules most ended start now bytes serves.bytes left_now on (subst L is serves.takes) serves.ends no_read
    no_write no_want
