-- The requests that make a register, and the moments at which they come: this project's profile.
use Rattle.std.specs.Prelude.{◌≡◌, ℕ, ◌+◌, ◌*◌, ℤ, pos, List, [], ◌∷◌, ◌++◌, length, map}
use Rattle.std.specs.List.{range_with_len}
use Rattle.register_words.specs.declared.sheets.Form.TheVariants.{Csv}
use Rattle.register_words.specs.declared.sheets.Sheet.TheVariants.{Lei, Rr}
use Rattle.register_words.specs.declared.base.Base.TheVariants.{Number}
use Rattle.register_words.specs.declared.request.Asked.TheVariants.{Ask}
use Rattle.register_words.specs.declared.request.Request.{Request}
use Rattle.register_words.specs.declared.request.Request.TheVariants.{Accredit, Copy, Delta, Publish, Upload}
use Rattle.register_words.specs.declared.reply.Reply.{Reply}
use Rattle.register_history.specs.Legal.{replies_to}
use Rattle.register_history.specs.Replies.{next}
use Rattle.register_history.specs.State.{OfficeState}
use Rattle.register_demo.specs.Bodies.{block_body}
use Rattle.register_demo.specs.Codes.{first_issuer, manager, second_issuer}
use Rattle.register_demo.specs.Plan.{block_count, upload_number}
use Rattle.register_demo.specs.declared.plan.Group.{Group}
use Rattle.register_demo.specs.declared.plan.Group.TheVariants.{Records, Relationships}

-- the upload of the records of a block, or of the relationships that start at them
abbrev pub demo_upload : Group → ℕ → ℕ → Request
demo_upload group n block =
    Upload (record {
      office = manager block;
      number = upload_number group n block;
      body = block_body
          group n block;
    })

-- the uploads of this many blocks, starting with this one
abbrev pub uploads_from : Group → ℕ → ℕ → ℕ → List Request
uploads_from group n block count = map (demo_upload group n) (range_with_len block count)

-- the uploads of all blocks
abbrev pub uploads_of : Group → ℕ → List Request
uploads_of group n = uploads_from group n 1 (block_count n)

-- the requests to accredit both issuers
abbrev pub accreditations : List Request
accreditations = Accredit first_issuer ∷ Accredit second_issuer ∷ []

-- the request to publish the records, and those for two copies
abbrev pub first_publication : List Request
first_publication = Publish 1 ∷ Copy Lei Csv ∷ Copy Rr Csv ∷ []

-- the request to publish the relationships too
abbrev pub second_publication : List Request
second_publication = Publish 2 ∷ []

-- the moment of the request that follows this many others: 2025-01-01T00:00:00Z, and a second later for each of them
abbrev pub request_moment : ℕ → ℤ
request_moment count = pos (1_735_689_600 + count)

-- the moments of requests, the first of which follows this many others
abbrev pub request_moments : ℕ → List Request → List ℤ
request_moments count requests = map request_moment (range_with_len count (length requests))

-- what an office replies to requests, the first of which follows this many others
abbrev pub replies_from : OfficeState → ℕ → List Request → List Reply
replies_from office count requests = replies_to office (map Ask requests) (request_moments count requests)

-- the office after requests that come at these moments
abbrev pub office_after : OfficeState → List Request → List ℤ → OfficeState
office_after office [] moments = office
office_after office (request ∷ requests) [] = office
office_after office (request ∷ requests) (m ∷ moments) = office_after (next office request m) requests moments

-- the office after requests, the first of which follows this many others
abbrev pub office_from : OfficeState → ℕ → List Request → OfficeState
office_from office count requests = office_after office requests (request_moments count requests)

-- These are the replies to requests, the first of which follows this many others, and this is the office after them.
pub record RepliesFrom (office : OfficeState) (count : ℕ) (requests : List Request) (replies : List Reply)
    (after : OfficeState) : Type 0 where
  pub told : replies ≡ replies_from office count requests
  pub leads : after ≡ office_from office count requests

-- the last requests: the deltas from the first publication
abbrev pub deltas : List Request
deltas = Delta (Number 1) Lei Csv ∷ Delta (Number 1) Rr Csv ∷ []

-- all requests. The issuers are accredited. The records are sent and published, and two copies are asked for. The
-- relationships are sent and published. The records are sent once more, and the deltas are asked for
abbrev pub demo_requests : ℕ → List Request
demo_requests n =
    accreditations ++ (uploads_of Records n
    ++ (first_publication ++ (uploads_of Relationships n ++ (second_publication
    ++ (uploads_of Records n ++ deltas)))))

-- how many requests these are
abbrev pub request_count : ℕ → ℕ
request_count n = 3 * block_count n + 8
