-- Reading a source as a text.
use Rattle.std.proofs.Common.{◌≡◌, ◌≢◌, ◌∙◌, ◌≤◌, ℕ, Bool, true, false, cond, List, length, take, IsUtf8, Some, None, refl, sym, ap, subst, arith, nat_lt, is_some, take_all, length-take}
use Rattle.std.specs.Prelude.{Option, Err, option_map}
use Rattle.cm_text.specs.declared.fault.TextFault.{TextFault}
use Rattle.cm_text.specs.declared.fault.TextFault.TheVariants as text
use Rattle.cm_text.specs.Faults.{text_fault, valid_len, settled_fault}
use Rattle.cm_text.specs.Feed.{Feed, Goes, StandsFor as FeedStandsFor, Answers as FeedAnswers}
use Rattle.std.proofs.lemmas.Bool.{ltb-false}
use Rattle.std.proofs.lemmas.Str.{utf8_valid_len_le}
use Rattle.cm_text.proofs.lemmas.FeedLemmas.{goes_on}
use Rattle.cm_text.proofs.lemmas.Utf8Lemmas.{valid_front-IsUtf8}
use Rattle.cm_tool.specs.ToldFaults.{told}
use Rattle.cm_tool.specs.Parsing.{TellsFault}

-- what a feed returns is reported as the fault of the bytes
pub feed_told : (fault : TextFault) (of : Option TextFault) → FeedAnswers (Err fault) of → TellsFault (told fault) (option_map told of)
feed_told text.NoMemory of h = tt
feed_told (text.NotUtf8 at) of h = ap (option_map told) h
feed_told (text.TooLong at) of h = ap (option_map told) h

-- bytes without a fault are UTF-8
pub sound_is_utf8 : (limit : ℕ) (bytes : List ℕ) → text_fault limit bytes ≡ None → IsUtf8 bytes
sound_is_utf8 limit bytes sound =
    let window = take limit bytes in
    let n = valid_len limit bytes in
    let reaches : length bytes ≤ n = ltb-false n (length bytes) (not_short (settled_fault limit bytes) (nat_lt n (length bytes)) (text.NotUtf8 n) sound) in
    let within : n ≤ length window = utf8_valid_len_le window in
    let whole : window ≡ bytes = take_all limit bytes (omega (arith, length-take limit bytes, reaches, within)) in
    subst IsUtf8 (take_all n window (omega (arith, ap length whole, reaches)) ∙ whole) (valid_front-IsUtf8 window)
  where
    not_short : (settled : Option TextFault) (short : Bool) (fault : TextFault) → cond (is_some settled) settled (cond short (Some fault) None) ≡ None → short ≡ false
    not_short (Some other) short fault is = cc
    not_short None true fault is = cc
    not_short None false fault is = refl

-- a feed that has no fault had none
pub had_none : (old new : Feed) → (old.fault ≢ None → new ≡ old) → new.fault ≡ None → old.fault ≡ None
had_none old new failed sound = go old.fault refl
  where
    go : (fault : Option TextFault) → old.fault ≡ fault → old.fault ≡ None
    go None is = is
    go (Some fault) is =
        let stays = failed (λ none. let both : None ≡ Some fault = sym none ∙ is in cc) in
        ap (λ (f : Feed). f.fault) (sym stays) ∙ sound

-- a feed that stands for bytes and has no fault continues
pub feed_goes : (feed : Feed) (bytes : List ℕ) → feed.ended ≡ false → (feed.fault ≡ None → Goes feed bytes 0) → feed.fault ≡ None → FeedStandsFor feed bytes 0
feed_goes feed bytes going goes sound = goes_on feed bytes 0 sound going (goes sound)
