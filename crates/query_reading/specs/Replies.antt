-- The bytes of replies. This project's profile.
use Rattle.std.specs.Prelude.{ℕ, List, [], ◌∷◌, ◌++◌, codes, decimal, length}
use Rattle.query_reading.specs.Refusals.{query_code, query_words}
use Rattle.query_reading.specs.declared.reply.QueryReply.{QueryReply}
use Rattle.query_reading.specs.declared.reply.QueryReply.TheVariants.{File, Refused, Text}

-- The bytes of a reply: its status code, a space, its text or its refusal in words, and LF. A text of many lines is
-- preceded by the number of its bytes and an LF.
unfoldable pub query_bytes : QueryReply → List ℕ
query_bytes (Text text) = codes "200 " ++ text ++ 10 ∷ []
query_bytes (File text) = codes "200 " ++ decimal (length text) ++ 10 ∷ (text ++ 10 ∷ [])
query_bytes (Refused refusal) = decimal (query_code refusal) ++ 32 ∷ (query_words refusal ++ 10 ∷ [])

-- The bytes of replies, one after another.
abbrev pub all_bytes : List QueryReply → List ℕ
all_bytes [] = []
all_bytes (reply ∷ replies) = query_bytes reply ++ all_bytes replies
