-- What a line asks. This project's profile.
use Rattle.std.specs.Prelude.{ℕ, ◌+◌, ◌==◌, List, take, drop, length, codes, nat_lt, if◌then◌else◌, position, Option, Some, None, option_map, option_and_then}
use Rattle.std.specs.Str.{bytes_eq}
use Rattle.register_words.specs.declared.request.Request.{Request}
use Rattle.register_words.specs.declared.request.Request.TheVariants as requests
use Rattle.register_words.specs.declared.request.Asked.{Asked}
use Rattle.register_words.specs.declared.request.Asked.TheVariants.{Ask, Refuse}
use Rattle.register_words.specs.declared.reply.Refusal.TheVariants.{TooLong, NoRoute, Path}
use Rattle.register_words.specs.Words.{base_named, form_named, lei_from, number_in_word, sheet_named}
use Rattle.line_reading.specs.Limits.{line_limit}
use Rattle.line_reading.specs.Lines.{Line}
use Rattle.line_reading.specs.declared.requests.FirstWord.{FirstWord}
use Rattle.line_reading.specs.declared.requests.FirstWord.TheVariants.{Accredit, Upload, Kept, Publish, Show, Copy, Delta, Status}

infixl 10 ◌>>=◌
-- What a function makes from a value, if there is one.
abbrev pub ◌>>=◌ : {A B : Type 0} → Option A → (A → Option B) → Option B
o >>= f = option_and_then f o

-- ---- words

-- The bytes before the first space and those after it, if there is a space.
abbrev pub cut_at_space : List ℕ → Option (List ℕ × List ℕ)
cut_at_space bytes = option_map (λ n. (take n bytes, drop (n + 1) bytes)) (position (λ b. b == 32) bytes)

-- ---- requests, by what follows the first word and its space

-- ACCREDIT: the rest is an LEI.
abbrev pub accreditation_request : List ℕ → Option Request
accreditation_request rest = option_map requests.Accredit (lei_from rest)

-- SHOW: the rest is an LEI.
abbrev pub show_request : List ℕ → Option Request
show_request rest = option_map requests.Show (lei_from rest)

-- PUBLISH: the rest is a number.
abbrev pub publication_request : List ℕ → Option Request
publication_request rest = option_map requests.Publish (number_in_word rest)

-- COPY: a sheet and a form.
unfoldable pub copy_request : List ℕ → Option Request
copy_request rest = do
  parts ← cut_at_space rest
  sheet ← sheet_named parts.0
  form ← form_named parts.1
  Some (requests.Copy sheet form)

-- DELTA: a base, a sheet and a form.
unfoldable pub delta_request : List ℕ → Option Request
delta_request rest = do
  first ← cut_at_space rest
  second ← cut_at_space first.1
  base ← base_named first.0
  sheet ← sheet_named second.0
  form ← form_named second.1
  Some (requests.Delta base sheet form)

-- KEPT: an LEI and a number.
unfoldable pub kept_request : List ℕ → Option Request
kept_request rest = do
  parts ← cut_at_space rest
  issuer ← lei_from parts.0
  number ← number_in_word parts.1
  Some (requests.Kept issuer number)

-- UPLOAD: an LEI, a number, and as the body all that follows the space after the number.
unfoldable pub upload_request : List ℕ → Option Request
upload_request rest = do
  first ← cut_at_space rest
  second ← cut_at_space first.1
  office ← lei_from first.0
  number ← number_in_word second.0
  Some (requests.Upload (record { office = office; number = number; body = second.1 }))

-- The first words of lines that ask something, exactly as written. Any other word is none of them.
abbrev pub first_word : List ℕ → Option FirstWord
first_word word =
    if bytes_eq word (codes "ACCREDIT") then Some Accredit
    else (if bytes_eq word (codes "UPLOAD") then Some Upload
    else (if bytes_eq word (codes "KEPT") then Some Kept
    else (if bytes_eq word (codes "PUBLISH") then Some Publish
    else (if bytes_eq word (codes "SHOW") then Some Show
    else (if bytes_eq word (codes "COPY") then Some Copy
    else (if bytes_eq word (codes "DELTA") then Some Delta
    else (if bytes_eq word (codes "STATUS") then Some Status else None)))))))

-- The request that a first word makes alone: only STATUS makes one, and no other word belongs to it.
abbrev pub request_alone : FirstWord → Option Request
request_alone Accredit = None
request_alone Upload = None
request_alone Kept = None
request_alone Publish = None
request_alone Show = None
request_alone Copy = None
request_alone Delta = None
request_alone Status = Some requests.Status

-- The request that a first word makes with what follows its space.
abbrev pub request_with : FirstWord → List ℕ → Option Request
request_with Accredit rest = accreditation_request rest
request_with Upload rest = upload_request rest
request_with Kept rest = kept_request rest
request_with Publish rest = publication_request rest
request_with Show rest = show_request rest
request_with Copy rest = copy_request rest
request_with Delta rest = delta_request rest
request_with Status rest = None

-- The request that a first word makes with what follows its space, if there is a space.
abbrev pub request_by : FirstWord → Option (List ℕ) → Option Request
request_by word None = request_alone word
request_by word (Some rest) = request_with word rest

-- ---- lines

-- A request is asked, or the words after the first one aren't those of a request.
abbrev pub or_path : Option Request → Asked
or_path None = Refuse Path
or_path (Some request) = Ask request

-- What is asked by a first word and what follows its space.
abbrev pub asked_after_word : Option FirstWord → Option (List ℕ) → Asked
asked_after_word None rest = Refuse NoRoute
asked_after_word (Some word) rest = or_path (request_by word rest)

-- The same for a line that was cut at its first space, if it has one.
abbrev pub asked_when_cut : Line → Option (List ℕ × List ℕ) → Asked
asked_when_cut line None = asked_after_word (first_word line) None
asked_when_cut line (Some parts) = asked_after_word (first_word parts.0) (Some parts.1)

-- The first of these that applies: the line is too long, its first word is unknown, or its other words aren't those of
-- a request. Otherwise what it asks.
unfoldable pub line_asks : Line → Asked
line_asks line = if nat_lt line_limit (length line) then Refuse TooLong else asked_when_cut line (cut_at_space line)
