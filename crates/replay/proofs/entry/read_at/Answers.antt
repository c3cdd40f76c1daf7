use Rattle.std.proofs.Common.{◌≡◌, ℕ, zero, suc, ◌≤◌, ◌<◌, List, [], ◌∷◌, ◌++◌, length, take, drop, get_or, drop-cons, refl, sym, ap, ◌∙◌, arith}
use Rattle.std.specs.Int.{w64, from_be_bytes}
use Rattle.std.proofs.lemmas.List.{take_rest, take-append-drop, length-take-le}
use Rattle.std.proofs.lemmas.Nat.{be_bytes_8}
use Rattle.replay.specs.Lists.{list_number}
use Rattle.replay.specs.Numbers.{eight_bytes}
use Rattle.replay.proofs.entry.read_at.Goals as goal

-- part of a list of bytes is one
front : (xs : List ℕ) (n i : ℕ) → ((j : ℕ) → get_or xs j 0 < 256) → get_or (take n xs) i 0 < 256
front xs zero i bytes = omega arith
front [] (suc n) i bytes = omega arith
front (x ∷ xs) (suc n) zero bytes = bytes 0
front (x ∷ xs) (suc n) (suc i) bytes = front xs n i (λ j. bytes (suc j))

behind_first : (xs : List ℕ) (i : ℕ) → ((j : ℕ) → get_or xs j 0 < 256) → get_or (drop 1 xs) i 0 < 256
behind_first [] i bytes = omega arith
behind_first (x ∷ xs) i bytes = bytes (suc i)

-- the eight bytes that a list begins with are those of the number that they are read as
eight : (xs place : List ℕ) (n : ℕ) → 8 ≤ length xs → ((i : ℕ) → get_or xs i 0 < 256) → place ≡ take 8 xs → n ≡ from_be_bytes w64 place
    → xs ≡ eight_bytes n ++ drop 8 xs
eight xs place n long bytes is value =
    let size : length place ≡ 8 = ap length is ∙ length-take-le 8 xs long in
    let all : (i : ℕ) → get_or place i 0 < 256 = λ i. rw is (front xs 8 i bytes) in
    sym (take-append-drop 8 xs) ∙ ap (λ z. z ++ drop 8 xs) (sym is ∙ sym (be_bytes_8 place n size all value))

pub returns : goal.returns
returns c =
    let xs = c.args.list.now in
    let place = c.from_be_bytes.result in
    let bytes : (i : ℕ) → get_or xs i 0 < 256 = λ i. omega (arith, c.type_inv.list i) in
    let split = rw (take_rest xs 1) at c.in-Some.ensures.cases in
    let long : 8 ≤ length (drop 1 xs) = omega (arith, split.2) in
    let behind : drop 1 xs ≡ eight_bytes place ++ c.in-Some.rest.now =
    eight (drop 1 xs) c.in-Some.place.now place long (λ i. behind_first xs i bytes) split.0 c.from_be_bytes.ensures
    ∙ ap (λ z. eight_bytes place ++ z) (sym split.1) in
    let first : get_or xs 0 0 ≡ list_number c.in_ok-name.name = sym c.in_ok-name.ensures in
    record {
      code_is = refl;
      holds =
          drop-cons xs 0 0 c.in-len1-up.len_at_least
          ∙ (ap (λ z. get_or xs 0 0 ∷ z) behind ∙ ap (λ n. n ∷ (eight_bytes place ++ c.in-Some.rest.now)) first);
      good = tt;
    }
