-- The bytes of keys.
use Rattle.std.specs.Arc.{arc_value}
use Rattle.lei_code.specs.Texts.{Text}
use Rattle.name_search.specs.declared.key.KeyText.{KeyText}
use Rattle.name_search.specs.declared.key.SearchText.{SearchText}

-- The bytes of a key.
abbrev pub key_text : KeyText → Text
key_text (KeyText.Code code) = code
key_text (KeyText.Other text) = arc_value text

-- The bytes of a key to look for.
abbrev pub search_text : SearchText → Text
search_text (SearchText.Code code) = code
search_text (SearchText.Other text) = text.now
