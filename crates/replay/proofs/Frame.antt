-- The answers behind the 8 bytes that say how many they are.
use Rattle.std.proofs.Common.{◌≡◌, ℕ, ◌+◌, ◌-◌, List, ◌++◌, length, take, Result, sym, ap, ◌∙◌, subst, arith, length-append}
use lib.Seq.{take-append-add}
use Rattle.stage.specs.declared.Stage.{Ghosts}
use Rattle.replay.specs.declared.fault.Fault.{Fault}
use Rattle.replay.specs.Numbers.{eight_bytes}
use Rattle.replay.specs.Replays.{IsAnsweredBy, FillsRoom, AnswersList}

-- a head of 8 bytes in front of the room that was filled
pub framed : {S R : Type 0} (m : Ghosts S) (n : Ghosts R) (xs out room last head : List ℕ) (count : ℕ) (r s : Result (Unit {0}) Fault)
    → length room + 8 ≡ length out → head ≡ eight_bytes count → r ≡ s → FillsRoom m n xs room last count r
    → AnswersList m n xs out (head ++ last) s
framed m n xs out room last head count r s size says same f =
    let bytes = f.0 in
    let room_is : length room ≡ length out - 8 = omega arith in
    let says_all : head ≡ eight_bytes (length bytes) = says ∙ ap eight_bytes f.3 in
    let long : length head ≡ 8 = ap length says in
    let kept = f.2 in
    let said : take (length bytes) last ≡ bytes = ap (λ j. take j last) (sym f.3) ∙ f.4 in (
      bytes,
      subst (λ k. IsAnsweredBy m n xs k bytes s) room_is (subst (λ e. IsAnsweredBy m n xs (length room) bytes e) same f.1),
      omega (arith, length-append head last),
      ap (λ z. take (8 + length bytes) (z ++ last)) says_all ∙ (take-append-add (eight_bytes (length bytes)) last (length bytes) ∙ ap (λ z. eight_bytes (length bytes) ++ z) said),
    )
