-- Responses that are sent in pieces.
use Rattle.std.proofs.Common.{◌≡◌, ℕ, ◌+◌, Bool, false, List, ◌++◌, length, Option, None, Result, Ok, Err, OnOk, refl, sym, ap, ◌∙◌, subst}
use Rattle.std.specs.Prelude.{is_err}
use Rattle.register_words.specs.Refusals.{refusal_status_code, refusal_words}
use Rattle.register_words.specs.declared.reply.Kind.{Kind}
use Rattle.register_words.specs.declared.reply.Refusal.{Refusal}
use Rattle.register_words.specs.declared.reply.Reply.{Reply}
use Rattle.register_words.specs.declared.reply.Reply.TheVariants.{Text, Words}
use Rattle.http_heads.specs.Responses.{response_head}
use Rattle.http_heads.specs.declared.responses.Content.{Content}
use Rattle.register_words.specs.declared.reply.Allowed.{Allowed}
use Rattle.request_loop.specs.Wires.{IsSent}
use Rattle.issuer_http.specs.Responses.{content_kind, methods_in, response_bytes}

-- what holds for an Ok, if the result isn't an Err
pub ok_of : {T E : Type 0} (P : Type 0) (result : Result T E) → is_err result ≡ false → OnOk result P → P
ok_of P (Ok done) is said = said
ok_of P (Err fault) is said = cc

-- the response to a refusal
pub refusal_sent : {T E : Type 0} (a b : Option (List ℕ)) (last : Bool) (refusal : Refusal) (code size : ℕ)
    (allow : Option Allowed) (text : List ℕ) (result : Result T E) → code ≡ refusal_status_code refusal
    → text ≡ refusal_words refusal → size ≡ length text → allow ≡ methods_in refusal
    → IsSent a b (response_head (record { code = code; content = Content.Plain; size = size; allow = allow; closes = last }) ++ text) result
    → IsSent a b (response_bytes last (Words refusal)) result
unfolding response_bytes
refusal_sent a b last refusal code size allow text result code_is text_is size_is allow_is sent =
    let S : List ℕ → Type 0 = λ l. IsSent a b l result in
    let long : size ≡ length (refusal_words refusal) = size_is ∙ ap length text_is in
    subst S (rw (code_is, long, allow_is, text_is) refl) sent

-- the response to a reply with a text
pub text_sent : {T E : Type 0} (a b : Option (List ℕ)) (last : Bool) (reply : Reply) (code size : ℕ) (kind : Kind)
    (content : Content) (text piece : List ℕ) (result : Result T E) → reply ≡ Text code kind text → content ≡ content_kind kind
    → size ≡ length text → piece ≡ text
    → IsSent a b (response_head (record { code = code; content = content; size = size; allow = None; closes = last }) ++ piece) result
    → IsSent a b (response_bytes last reply) result
unfolding response_bytes
text_sent a b last reply code size kind content text piece result is content_is size_is piece_is sent =
    let S : List ℕ → Type 0 = λ l. IsSent a b l result in
    let R : Reply → Type 0 = λ r. IsSent a b (response_bytes last r) result in
    subst R (sym is) (subst S (rw (content_is, size_is, piece_is) refl) sent)
