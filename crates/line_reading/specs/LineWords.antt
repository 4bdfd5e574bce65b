-- What the code reads of a line, with the body of an upload borrowed from the line.
use Rattle.register_words.specs.declared.request.Asked.{Asked}
use Rattle.register_words.specs.declared.request.Asked.TheVariants.{Ask, Refuse}
use Rattle.register_words.specs.declared.request.Request.TheVariants.{Upload}
use Rattle.line_reading.specs.declared.requests.LineWords.{LineWords}
use Rattle.line_reading.specs.declared.requests.LineWords.TheVariants as words

-- What these words ask.
abbrev pub asked_by_words : LineWords → Asked
asked_by_words (words.Refused refusal) = Refuse refusal
asked_by_words (words.Upload office number body) = Ask
    (Upload (record { office = office; number = number; body = body.now }))
asked_by_words (words.Other request) = Ask request
