-- How the fault of a body is reported to a person.
use Rattle.std.specs.Prelude.{codes}
use Rattle.lei_code.specs.Texts.{Text}
use Rattle.register_words.specs.declared.malformed.Malformed.{Malformed}
use Rattle.register_words.specs.declared.malformed.Malformed.TheVariants.{NotJson, NotAnUpload, NoItems, TooManyItems}

-- the words for a body that isn't an upload
abbrev pub malformed_words : Malformed → Text
malformed_words NotJson = codes "the body is no JSON text"
malformed_words NotAnUpload = codes "the body is no upload"
malformed_words NoItems = codes "the body lists no item"
malformed_words TooManyItems = codes "the body lists too many items"
