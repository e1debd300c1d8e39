use Rattle.std.proofs.Common.{◌≡◌, ◌+◌, length, Some, None, string_bytes, ℕ, ◌-◌, List, [], ◌∷◌, ◌++◌, take, drop, sym, subst, arith, ◌∙◌, ap, IsUtf8}
use Rattle.std.specs.List.{prefix_len}
use Rattle.std.specs.Str.{IsCharBoundary}
use Rattle.std.proofs.lemmas.Str.{IsUtf8-drop}
use Rattle.xr_syntax.specs.Tokens.{quoted}
use Rattle.xr_tokens.specs.Pieces.{is_plain, escape_at, begins}
use Rattle.xr_tokens.proofs.Between.{plain_cut, escape_cut, next_piece, last_piece}
use Rattle.xr_tokens.proofs.quotes.quoted.Goals as goal

pub split_at-requires : goal.split_at-requires
split_at-requires c =
    let n : c.plain_run.result ≡ prefix_len (is_plain c.args.quote) c.pieces.left.now = rw (← c.as_bytes.ensures.value) c.plain_run.ensures in
    subst (IsCharBoundary c.pieces.left.now) (sym n) (plain_cut c.args.quote c.pieces.left.now c.requires.quote)

pub split_at-requires-in-Some : goal.split_at-requires-in-Some
split_at-requires-in-Some c =
    let e : escape_at c.split_at.result.1.now ≡ Some c.in-Some.c = rw (← c.as_bytes-in-pieces.ensures.value) (sym c.in-Some.ensures.value) in
    let u : IsUtf8 c.split_at.result.1.now = subst IsUtf8 c.as_bytes-in-pieces.ensures.value c.as_bytes-in-pieces.ensures.utf8 in
    escape_cut c.split_at.result.1.now c.in-Some.c u e

pub pieces-preserved : goal.pieces-preserved
pieces-preserved c =
    let quote = c.args.quote in
    let rest = c.args.rest.now in
    let left = c.pieces.left.now in
    let behind_run = c.split_at.result.1.now in
    let next = c.split_at-in-Some.result.1.now in
    let run : c.plain_run.result ≡ prefix_len (is_plain quote) left = rw (← c.as_bytes.ensures.value) c.plain_run.ensures in
    let cut : behind_run ≡ drop (prefix_len (is_plain quote) left) left = rw (← run) c.split_at.ensures.back in
    let plain : c.split_at.result.0.now ≡ take (prefix_len (is_plain quote) left) left = rw (← run) c.split_at.ensures.front in
    let escape : escape_at (drop (prefix_len (is_plain quote) left) left) ≡ Some c.in-Some.c = rw (← cut, ← c.as_bytes-in-pieces.ensures.value) (sym c.in-Some.ensures.value) in
    let total = next_piece quote (string_bytes c.pieces.text) left (length rest - length left) c.in-Some.c (quoted quote rest) c.requires.quote escape c.pieces.invariant.total in
    let text : string_bytes c.push.new.self ≡ (string_bytes c.pieces.text ++ take (prefix_len (is_plain quote) left) left) ++ (c.in-Some.c ∷ []) =
    c.in_ok-push-in-Some.ensures.bytes ∙ ap (λ (l : List ℕ). string_bytes c.push_str.new.self ++ l) (c.in_ok-push-in-Some.ensures.ascii c.in-Some.ensures.ascii)
    ∙ ap (λ (l : List ℕ). l ++ (c.in-Some.c ∷ [])) (c.in_ok-push_str.ensures.bytes ∙ ap (λ (l : List ℕ). string_bytes c.pieces.text ++ l) plain) in
    let next_is : next ≡ drop 2 (drop (prefix_len (is_plain quote) left) left) = c.split_at-in-Some.ensures.back ∙ ap (drop 2) cut in
    let text_behind : IsUtf8 behind_run = subst IsUtf8 c.as_bytes-in-pieces.ensures.value c.as_bytes-in-pieces.ensures.utf8 in
    let shorter = c.pieces.invariant.shorter in
    let done : length rest - length next ≡ length rest - length left + prefix_len (is_plain quote) left + 2 =
    omega (arith, shorter, run, c.split_at.ensures.front_len, c.split_at.ensures.back_len, c.split_at-in-Some.ensures.back_len) in
    record {
      utf8 = subst IsUtf8 (sym c.split_at-in-Some.ensures.back) (IsUtf8-drop behind_run 2 text_behind (escape_cut behind_run c.in-Some.c text_behind (rw cut escape)));
      shorter = omega (arith, shorter, c.split_at.ensures.back_len, c.split_at-in-Some.ensures.back_len);
      total = rw (text, done, next_is) total;
    }

pub returns-in-None : goal.returns-in-None
returns-in-None c =
    let quote = c.args.quote in
    let rest = c.args.rest.now in
    let left = c.pieces.left.now in
    let behind_run = c.split_at.result.1.now in
    let run : c.plain_run.result ≡ prefix_len (is_plain quote) left = rw (← c.as_bytes.ensures.value) c.plain_run.ensures in
    let cut : behind_run ≡ drop (prefix_len (is_plain quote) left) left = rw (← run) c.split_at.ensures.back in
    let plain : c.split_at.result.0.now ≡ take (prefix_len (is_plain quote) left) left = rw (← run) c.split_at.ensures.front in
    let none : escape_at (drop (prefix_len (is_plain quote) left) left) ≡ None = rw (← cut, ← c.as_bytes-in-pieces.ensures.value) (sym c.in-None.ensures.value) in
    let total = last_piece quote (string_bytes c.pieces.text) left (length rest - length left) (quoted quote rest) none c.pieces.invariant.total in
    let text : string_bytes c.push_str.new.self ≡ string_bytes c.pieces.text ++ take (prefix_len (is_plain quote) left) left =
    c.in_ok-push_str.ensures.bytes ∙ ap (λ (l : List ℕ). string_bytes c.pieces.text ++ l) plain in
    let done : length rest - length behind_run ≡ length rest - length left + prefix_len (is_plain quote) left =
    omega (arith, c.pieces.invariant.shorter, run, c.split_at.ensures.front_len, c.split_at.ensures.back_len) in
    let closes : c.begins.result ≡ begins quote (drop (prefix_len (is_plain quote) left) left) = c.begins.ensures ∙ ap (begins quote) (c.as_bytes-in-None.ensures.value ∙ cut) in
    c.closed.ensures ∙ rw (closes, text, done) total
