-- Reading, in the order of this page: one read into the rest of a list, and the bytes that it brings; the
-- loop: where it begins, one read more, a read that brings nothing, one that fails, where the list is full.
use mathlib.Core.Path.{◌≡◌, refl, sym, ap, subst, ◌∙◌}
use mathlib.Core.List.{List, ◌++◌}
use Prim.Native.Nat.{ℕ, ◌+◌, ◌-◌, ◌≤◌}
use native.Mathlib.Omega.{arith}
use borrow.Rule.Slice.PartMut.{put_mid, post_of, take_put}
use lib.ListN.{length, take}
use Rattle.std.proofs.Math.Seq.{take-append-add}
use Rattle.std.proofs.lemmas.List.{take-append-le, length-take-le}
use Rattle.std.specs.declared.option.Option.{Option}
use Rattle.std.specs.Io.KnownBytes.{Consumes, IsAtEnd}
use Rattle.std.proofs.KnownBytes.{Consumes-nil, Consumes-trans}
use Rattle.std.specs.declared.result.Result.{Result}
use Rattle.std.specs.declared.result.Result.TheVariants.{Ok, Err}
use Rattle.std.specs.Result.{IsErr}
use Rattle.outline.specs.Reading.{ReadMore, Reads, begun, continued, ReadText}

-- the list with its rest from `filled` on replaced by `last`, as the system left it
module _ (before : List ℕ) (filled : ℕ) (last : List ℕ) where
  abbrev pub left_as : List ℕ
  left_as = put_mid filled (length before - filled) before last

  read_more : filled ≤ length before → length left_as ≡ length before → (more : ℕ) →
      filled + more ≤ length before → ReadMore before filled left_as more
  read_more inside as_long more fits =
      record {
        kept = take_put filled (length before - filled) before last inside;
        as_long = as_long;
        inside = fits;
      }

  bytes_more : filled ≤ length before → (more : ℕ) → more ≤ length last →
      take (filled + more) left_as ≡ take filled before ++ take more last
  bytes_more inside more fits =
      let rest = post_of filled (length before - filled) before in
      ap (λ (n : ℕ). take (n + more) (take filled before ++ (last ++ rest)))
      (sym (length-take-le filled before inside))
      ∙ take-append-add (take filled before) (last ++ rest) more
      ∙ ap (λ (s : List ℕ). take filled before ++ s) (take-append-le more last rest fits)

-- so many bytes of the list are read, and these the input has lost
pub record Filling (input left : Option (List ℕ)) (lent now : List ℕ) (filled : ℕ) : Type 0 where
  pub reads : Reads lent now filled
  pub inside : filled ≤ length lent
  pub as_long : length now ≡ length lent
  pub bytes : Consumes input left (take filled now)

pub none_read : (input : Option (List ℕ)) (lent : List ℕ) → Filling input input lent lent 0
none_read input lent =
    record { reads = begun; inside = omega arith; as_long = refl; bytes = Consumes-nil input }

within : {input left : Option (List ℕ)} {lent now : List ℕ} {filled : ℕ} →
    Filling input left lent now filled → filled ≤ length now
within f = omega (arith, f.inside, f.as_long)

module _ {input left later : Option (List ℕ)} {lent now : List ℕ} {filled : ℕ}
    (f : Filling input left lent now filled) (last : List ℕ)
    (as_long : length (left_as now filled last) ≡ length now)
  where
    -- a read that brings some bytes more, or none
    module _ (more : ℕ) (fits : filled + more ≤ length now) (few : more ≤ length last)
        (lost : Consumes left later (take more last)) where
      pub one_read : Filling input later lent (left_as now filled last) (filled + more)
      one_read =
          record {
            reads = continued f.reads (read_more now filled last (within f) as_long more fits);
            inside = omega (arith, fits, f.as_long);
            as_long = as_long ∙ f.as_long;
            bytes =
                subst (Consumes input later) (sym (bytes_more now filled last (within f) more few))
                (Consumes-trans input left later (take filled now) (take more last) f.bytes lost);
          }

      -- where it brings none, reading ends
      pub none_more : {E : Type 0} → more ≡ 0 → IsAtEnd later →
          ReadText {E = E} input later lent (left_as now filled last) (Ok (filled + more))
      none_more none ended =
          let same : filled ≡ filled + more = omega (arith, none) in
          let read = read_more now filled last (within f) as_long 0 (omega (arith, within f)) in
          record {
            as_long = one_read.as_long;
            read =
                record {
                  reads = one_read.reads;
                  inside = one_read.inside;
                  told = λ h. (now, subst (λ (n : ℕ). ReadMore now n (left_as now filled last) 0) same read);
                  ended = λ h. ended;
                  bytes = one_read.bytes;
                };
            failed = tt;
          }

    -- one that fails
    pub read_failed : {E : Type 0} (r : Result ℕ E) → IsErr r →
        ReadText input later lent (left_as now filled last) r
    read_failed (Ok n) e = absurd (let z : ◌≡◌ {A = ℕ} 0 1 = cc in omega arith)
    read_failed (Err x) e =
        record {
          as_long = as_long ∙ f.as_long;
          read = tt;
          failed = (
            filled + 0,
            continued f.reads (read_more now filled last (within f) as_long 0 (omega (arith, within f))),
          );
        }
