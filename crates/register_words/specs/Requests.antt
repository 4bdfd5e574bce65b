-- Requests as readers make them. This project's profile.
use Rattle.std.specs.Prelude.{ℕ}
use Rattle.lei_code.specs.Code.{IsValid}
use Rattle.register_words.specs.declared.request.Request.{Request}
use Rattle.register_words.specs.declared.request.Request.TheVariants.{Accredit, Upload, Kept, Publish, Show, Copy, Delta, Status}
use Rattle.register_words.specs.Limits.{IsFrom1To}
use Rattle.register_words.specs.Words.{number_limit}

-- the number of an upload is from 1 to its limit, and so is that of a publication
abbrev pub IsUploadNumber : ℕ → Type 0
IsUploadNumber number = IsFrom1To number_limit number

-- if a request takes a new number, of an upload or a publication, it is in its range
abbrev pub HasNumberInRange : Request → Type 0
HasNumberInRange (Accredit issuer) = Unit {0}
HasNumberInRange (Upload call) = IsUploadNumber call.number
HasNumberInRange (Kept issuer number) = Unit {0}
HasNumberInRange (Publish number) = IsUploadNumber number
HasNumberInRange (Show lei) = Unit {0}
HasNumberInRange (Copy sheet form) = Unit {0}
HasNumberInRange (Delta base sheet form) = Unit {0}
HasNumberInRange Status = Unit {0}

-- a request as readers make it: each LEI that it names is one, and its number is in its range
abbrev pub IsRequest : Request → Type 0
IsRequest (Accredit issuer) = IsValid issuer
IsRequest (Upload call) = IsValid call.office × IsUploadNumber call.number
IsRequest (Kept issuer number) = IsValid issuer × IsUploadNumber number
IsRequest (Publish number) = IsUploadNumber number
IsRequest (Show lei) = IsValid lei
IsRequest (Copy sheet form) = Unit {0}
IsRequest (Delta base sheet form) = Unit {0}
IsRequest Status = Unit {0}

-- reading this request takes memory: it is an upload, whose body is kept
abbrev pub TakesMemoryToRead : Request → Type 0
TakesMemoryToRead (Accredit issuer) = ⊥
TakesMemoryToRead (Upload call) = Unit {0}
TakesMemoryToRead (Kept issuer number) = ⊥
TakesMemoryToRead (Publish number) = ⊥
TakesMemoryToRead (Show lei) = ⊥
TakesMemoryToRead (Copy sheet form) = ⊥
TakesMemoryToRead (Delta base sheet form) = ⊥
TakesMemoryToRead Status = ⊥
