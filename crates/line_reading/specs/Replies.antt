-- The bytes of replies.
use Rattle.std.specs.Prelude.{Bool, true, false, List, [], ◌∷◌, ◌++◌, ℕ, decimal, length, if◌then◌else◌}
use Rattle.register_words.specs.Refusals.{refusal_words, reply_status_code}
use Rattle.register_words.specs.declared.reply.Reply.{Reply}
use Rattle.register_words.specs.declared.reply.Reply.TheVariants as replies
use Rattle.register_words.specs.declared.request.Asked.{Asked}
use Rattle.register_words.specs.declared.request.Asked.TheVariants.{Ask, Refuse}
use Rattle.register_words.specs.declared.request.Request.{Request}
use Rattle.register_words.specs.declared.request.Request.TheVariants as requests

-- A request for a file, which is a text of many lines: a copy or a delta.
abbrev pub wants_file : Request → Bool
wants_file (requests.Accredit issuer) = false
wants_file (requests.Upload call) = false
wants_file (requests.Kept issuer number) = false
wants_file (requests.Publish number) = false
wants_file (requests.Show lei) = false
wants_file (requests.Copy sheet form) = true
wants_file (requests.Delta base sheet form) = true
wants_file requests.Status = false

-- Whether what is asked is a file.
abbrev pub asks_file : Asked → Bool
asks_file (Refuse refusal) = false
asks_file (Ask request) = wants_file request

-- What a reply says after its status code: a text, or a refusal in words. If the text is a file, the number of its
-- bytes and the end of a line come before it.
abbrev pub text_after_code : Reply → Bool → List ℕ
text_after_code (replies.Text code kind text) is_file = if is_file then decimal (length text) ++ 10 ∷ text else text
text_after_code (replies.Words refusal) is_file = refusal_words refusal

-- The bytes of a reply: its status code, a space, what it says, and the end of the line.
unfoldable pub reply_bytes : Reply → Bool → List ℕ
reply_bytes reply is_file = decimal (reply_status_code reply) ++ 32 ∷ (text_after_code reply is_file ++ 10 ∷ [])

-- The bytes of the reply to what was asked. All that matters of what was asked is whether it is a file.
abbrev pub reply_text : Asked → Reply → List ℕ
reply_text asked reply = reply_bytes reply (asks_file asked)

-- The bytes of the replies to what was asked, in order.
abbrev pub reply_texts : List Asked → List Reply → List ℕ
reply_texts [] replies = []
reply_texts (asked ∷ asks) [] = []
reply_texts (asked ∷ asks) (reply ∷ replies) = reply_text asked reply ++ reply_texts asks replies
