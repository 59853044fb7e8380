-- Which texts write a number
use Rattle.std.proofs.Common.{◌≡◌, ℕ, ◌^◌, ◌<◌, Bool, true, false, eqb, List, [], ◌∷◌, length, get_or, Some, None, Ok, Err, IsUtf8, MatchOption, MatchResult, Bor, decimal, Option, Result, sym, refl, ap, ◌∙◌, subst, ⊎_elim, arith}
use Rattle.std.specs.Bool.{Decides}
use Rattle.std.specs.List.{starts_with}
use Rattle.std.specs.Result.{result_ok}
use Rattle.std.specs.Str.Parse.{AllDigits, digits_value, ParsesUnsigned}
use Rattle.std.proofs.lemmas.Fmt.{decimal_nonempty, decimal_digit, first_decimal, digits_decimal, IsAscii-decimal, parse-decimal, decimal-digits_value, digits_value-decimal}
use Rattle.std.proofs.lemmas.Slice.Eq.{bytes_eq-Decides}
use Rattle.std.proofs.lemmas.Str.Parse.{IsNumeralModel, numerals_by_value, tells_digits, not_in_digits, parse_plain}
use Rattle.std.proofs.lemmas.Str.{IsUtf8-from_ascii}
use Rattle.std.proofs.str.Laws.{order}
use Rattle.script.specs.Numbers.{Natural, leads_with_zero, natural_of}

own : IsNumeralModel (AllDigits 10) (digits_value 10)
own = numerals_by_value (AllDigits 10) tells_digits

pub plus_is : (bs : List ℕ) (r : Bool) → r ≡ starts_with eqb bs (43 ∷ []) → Decides r (get_or bs 0 0 ≡ 43)
plus_is [] r e = (λ t. absurd cc, λ z. absurd (omega arith))
plus_is (c ∷ cs) r e = grind arith

pub none_sign : (bs : List ℕ) → get_or bs 0 0 ≡ 43 → Natural bs None
none_sign bs e n h d =
    let small : n < 2 ^ 64 = omega arith in
    not_in_digits own (decimal n) 43 (digits_decimal own n small) (λ h. omega arith) 0 (decimal_nonempty n small) (ap (λ l. get_or l 0 0) d ∙ e)

pub none_padded : (bs : List ℕ) → leads_with_zero bs ≡ true → Natural bs None
none_padded [] padded n h d = absurd cc
none_padded (b ∷ []) padded n h d = absurd cc
none_padded (b ∷ c ∷ cs) padded n h d =
    let zero : b ≡ 48 = grind (arith, padded) in
    ⊎_elim
    (λ some. omega (arith, first_decimal n some (omega arith), ap (λ l. get_or l 0 0) d))
    (λ zero. omega (arith, ap length (decimal_digit n (omega arith)), ap length d))
    (order 0 n)

-- a zero that leads and is no padding stands alone
lone : (bs : List ℕ) → leads_with_zero bs ≡ false → get_or bs 0 0 ≡ 48 → length bs ≡ 1
lone [] not e = absurd (omega arith)
lone (b ∷ []) not e = refl
lone (b ∷ c ∷ cs) not e = absurd (grind (arith, not, e))

pub none_bytes : (bs : List ℕ) → (IsUtf8 bs → ⊥) → Natural bs None
none_bytes bs not n h d = not (subst IsUtf8 d (IsUtf8-from_ascii (decimal n) (IsAscii-decimal n (omega arith))))

-- what a text decodes to
pub decoded : {E : Type 0} (V : E → Type 0) (bs : List ℕ) (r : Result (Bor (List ℕ)) E) (o : Option (Bor (List ℕ))) → o ≡ result_ok r → MatchResult r (λ s. (s.now ≡ bs) × IsUtf8 bs) (λ e. (IsUtf8 bs → ⊥) × V e) → MatchOption o ((IsUtf8 bs → ⊥)) (λ s. s.now ≡ bs)
decoded V bs (Ok s) o is h = rw is h.0
decoded V bs (Err e) o is h = rw is h.0

pub parsed : {E : Type 0} (bs : List ℕ) (r : Result ℕ E) → (get_or bs 0 0 ≡ 43 → ⊥) → leads_with_zero bs ≡ false → ParsesUnsigned 64 10 bs r → Natural bs (result_ok r)
parsed {E} bs (Ok n) plain short reads =
    let got = parse_plain own {E = E} 64 bs (Ok n) reads plain in
    (omega (arith, got.0.2, got.1), ap decimal got.1 ∙ decimal-digits_value own bs got.0.0 got.0.1 (lone bs short) got.0.2)
parsed {E} bs (Err e) plain short reads = λ n h d. let back = parse-decimal 64 n bs (Err e) (omega arith) (omega arith) (sym d) reads in absurd cc

-- the relation pins the number
pub natural_is : (bs : List ℕ) (r : Option ℕ) → Natural bs r → r ≡ natural_of bs
natural_is bs None h = grind (arith, h (digits_value 10 bs), bytes_eq-Decides (decimal (digits_value 10 bs)) bs)
natural_is bs (Some n) h =
    let value : digits_value 10 bs ≡ n = ap (digits_value 10) (sym h.1) ∙ digits_value-decimal own n (omega (arith, h.0)) in
    grind (arith, h, value, bytes_eq-Decides (decimal n) bs)
