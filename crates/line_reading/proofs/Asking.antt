-- Requests of lines have numbers in their ranges, and refusals of lines report no fault of the keeper.
use Rattle.std.proofs.Common.{◌≡◌, ◌≢◌, ◌<◌, arith, ℕ, List, length, Option, Some, None, true, false, cond, ltb, refl, subst}
use Rattle.std.specs.Option.{option_and_then, option_map}
use Rattle.register_words.specs.declared.request.Request.{Request}
use Rattle.register_words.specs.declared.request.Request.TheVariants as requests
use Rattle.register_words.specs.declared.request.Asked.{Asked}
use Rattle.register_words.specs.declared.request.Asked.TheVariants.{Ask, Refuse}
use Rattle.register_words.specs.Refusals.{refusal_status_code}
use Rattle.register_words.specs.declared.reply.Refusal.{Refusal}
use Rattle.register_words.specs.declared.reply.Refusal.TheVariants.{TooLong}
use Rattle.register_words.specs.Requests.{HasNumberInRange}
use Rattle.register_words.proofs.Numbers.{number_within-range}
use Rattle.register_words.specs.Words.{base_named, form_named, lei_from, number_in_word, sheet_named}
use Rattle.line_reading.specs.Lines.{Line}
use Rattle.line_reading.specs.Limits.{line_limit}
use Rattle.line_reading.specs.Requests.{line_asks, asked_when_cut, asked_after_word, or_path, cut_at_space, copy_request, delta_request, upload_request, kept_request, first_word}
use Rattle.line_reading.specs.declared.requests.FirstWord.{FirstWord}
use Rattle.line_reading.specs.declared.requests.FirstWord.TheVariants.{Accredit, Upload, Kept, Publish, Show, Copy, Delta, Status}

-- what is asked is a request with a number in its range, or a refusal that reports no fault of the keeper
abbrev pub AsksInRange : Asked → Type 0
AsksInRange (Refuse refusal) = refusal_status_code refusal ≢ 503
AsksInRange (Ask request) = HasNumberInRange request

apart : (code : ℕ) → code < 503 → code ≢ 503
apart code low is = omega (arith, low, is)

no_path : AsksInRange (or_path None)
no_path = apart 400 (omega arith)

bind_range : {A : Type 0} (o : Option A) (f : A → Option Request) → ((x : A) → o ≡ Some x → AsksInRange (or_path (f x)))
    → AsksInRange (or_path (option_and_then f o))
bind_range None f each = no_path
bind_range (Some x) f each = each x refl

upload_range : (rest : List ℕ) → AsksInRange (or_path (upload_request rest))
unfolding upload_request
upload_range rest =
    bind_range (cut_at_space rest) _
    (λ first _. bind_range (cut_at_space first.1) _ (λ second _. bind_range (lei_from first.0) _ (λ office _.
    bind_range (number_in_word second.0) _ (λ number is. number_within-range 1 1_000_000 second.0 number is))))

kept_range : (rest : List ℕ) → AsksInRange (or_path (kept_request rest))
unfolding kept_request
kept_range rest =
    bind_range (cut_at_space rest) _
    (λ parts _. bind_range (lei_from parts.0) _ (λ issuer _. bind_range (number_in_word parts.1) _ (λ number _. tt)))

accreditation_range : (code : Option (List ℕ)) → AsksInRange (or_path (option_map requests.Accredit code))
accreditation_range None = no_path
accreditation_range (Some office) = tt

show_range : (code : Option (List ℕ)) → AsksInRange (or_path (option_map requests.Show code))
show_range None = no_path
show_range (Some code) = tt

publication_range : (rest : List ℕ) (number : Option ℕ) → number_in_word rest ≡ number → AsksInRange (or_path (option_map requests.Publish number))
publication_range rest None is = no_path
publication_range rest (Some number) is = number_within-range 1 1_000_000 rest number is

copy_range : (rest : List ℕ) → AsksInRange (or_path (copy_request rest))
unfolding copy_request
copy_range rest =
    bind_range (cut_at_space rest) _ (λ parts _. bind_range (sheet_named parts.0) _ (λ sheet _. bind_range (form_named parts.1) _ (λ form _. tt)))

delta_range : (rest : List ℕ) → AsksInRange (or_path (delta_request rest))
unfolding delta_request
delta_range rest =
    bind_range (cut_at_space rest) _
    (λ first _. bind_range (cut_at_space first.1) _ (λ second _. bind_range (base_named first.0) _ (λ base _.
    bind_range (sheet_named second.0) _ (λ sheet _. bind_range (form_named second.1) _ (λ form _. tt)))))

by_range : (word : Option FirstWord) (rest : Option (List ℕ)) → AsksInRange (asked_after_word word rest)
by_range None rest = apart 404 (omega arith)
by_range (Some Accredit) None = no_path
by_range (Some Accredit) (Some rest) = accreditation_range (lei_from rest)
by_range (Some Upload) None = no_path
by_range (Some Upload) (Some rest) = upload_range rest
by_range (Some Kept) None = no_path
by_range (Some Kept) (Some rest) = kept_range rest
by_range (Some Publish) None = no_path
by_range (Some Publish) (Some rest) = publication_range rest (number_in_word rest) refl
by_range (Some Show) None = no_path
by_range (Some Show) (Some rest) = show_range (lei_from rest)
by_range (Some Copy) None = no_path
by_range (Some Copy) (Some rest) = copy_range rest
by_range (Some Delta) None = no_path
by_range (Some Delta) (Some rest) = delta_range rest
by_range (Some Status) None = tt
by_range (Some Status) (Some rest) = no_path

cut_range : (line : Line) (parts : Option (List ℕ × List ℕ)) → AsksInRange (asked_when_cut line parts)
cut_range line None = by_range (first_word line) None
cut_range line (Some parts) = by_range (first_word parts.0) (Some parts.1)

pub in_range : (line : Line) → AsksInRange (line_asks line)
unfolding line_asks
in_range line =
    elim (ltb line_limit (length line)) as (λ b. AsksInRange (cond b (Refuse TooLong) (asked_when_cut line (cut_at_space line)))) [
      | true ↦ apart 413 (omega arith)
      | false ↦ cut_range line (cut_at_space line)
    ]

-- a request that a line asks has a number in its range
pub is_numbered : (line : Line) (request : Request) → line_asks line ≡ Ask request → HasNumberInRange request
is_numbered line request is = let P : Asked → Type 0 = λ what. AsksInRange what in subst P is (in_range line)

-- a refusal of a line reports no fault of the keeper
pub reports_no_fault : (line : Line) (refusal : Refusal) → line_asks line ≡ Refuse refusal → refusal_status_code refusal ≢ 503
reports_no_fault line refusal is = let P : Asked → Type 0 = λ what. AsksInRange what in subst P is (in_range line)
