-- Replies that report a fault of the keeper.
use Rattle.std.specs.Prelude.{ℕ, ◌==◌, Bool, false, List, length, filter}
use Rattle.register_words.specs.Refusals.{refusal_status_code}
use Rattle.register_words.specs.declared.reply.Reply.{Reply}
use Rattle.register_words.specs.declared.reply.Reply.TheVariants.{Text, Words}

-- The reply is 503 KEEPER_FAULT. No other refusal has this status code.
abbrev pub is_keeper_fault : Reply → Bool
is_keeper_fault (Text code kind text) = false
is_keeper_fault (Words refusal) = refusal_status_code refusal == 503

-- How many of the replies are KEEPER_FAULT.
abbrev pub keeper_faults : List Reply → ℕ
keeper_faults replies = length (filter is_keeper_fault replies)
