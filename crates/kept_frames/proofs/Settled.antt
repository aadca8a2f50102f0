-- *Keep* is right, whatever flags, counts and crops said: a colour is kept only where the whole tile shows it. Assumes nothing.
use Rattle.std.specs.Prelude.{◌≡◌, ◌&&◌}
use Rattle.laws.proofs.Prelude.{refl, sym, ap, ◌∙◌, Bool, true, false, false≢true, List, ℕ, arith, eqb-true, eqb, get_or, left, right}
use Rattle.cached_tile.specs.Tile.{keeps_color, keep_color}
use Rattle.cached_tile.specs.Kept.{same_bytes, keep_or_write, keeps_same}
use Rattle.cached_tile.specs.declared.CachedTile.{CachedTile}
use Rattle.cached_tile.proofs.Counts.{color_left, color_dropped, tags_count, tags_color, tags_dropped}
use Rattle.kept_frames.proofs.Tags.{color_uncounted, tags_uncounted}
use Rattle.kept_frames.specs.Display.{Display, SameDisplay, ShowsBytes, KeepsShown, displayed, SolidRight, FirstShown}

same_display : (a b : List ℕ) → same_bytes a b ≡ true → SameDisplay a b
same_display a b h =
    let e0 = eqb (get_or a 0 0) (get_or b 0 0) in
    let e1 = eqb (get_or a 1 0) (get_or b 1 0) in
    let e2 = eqb (get_or a 2 0) (get_or b 2 0) in
    let e3 = eqb (get_or a 3 0) (get_or b 3 0) in
    record {
      r = eqb-true _ _ (left e0 e1 (left (e0 && e1) e2 (left (e0 && e1 && e2) e3 h)));
      g = eqb-true _ _ (right e0 e1 (left (e0 && e1) e2 (left (e0 && e1 && e2) e3 h)));
      b = eqb-true _ _ (right (e0 && e1) e2 (left (e0 && e1 && e2) e3 h));
      a = eqb-true _ _ (right (e0 && e1 && e2) e3 h);
    }

display_then : (a b c : List ℕ) → SameDisplay a b → SameDisplay b c → SameDisplay a c
display_then a b c p q = record { r = p.r ∙ q.r; g = p.g ∙ q.g; b = p.b ∙ q.b; a = p.a ∙ q.a }

solid_then : (d : Display) (b c : List ℕ) → ShowsBytes d b → SameDisplay b c → ShowsBytes d c
solid_then (Display.solid shown) b c p q = display_then shown b c p q
solid_then Display.other b c p q = absurd p

display_self : (a : List ℕ) → SameDisplay a a
display_self a = record { r = refl; g = refl; b = refl; a = refl }

-- ---- each work on the tile

module _ (t : CachedTile) (d : Display) (s : KeepsShown t d) where
  keep_right : (bytes : List ℕ) → keeps_same t bytes ≡ true → ShowsBytes d bytes
  keep_right bytes h =
      solid_then d t.solid_color bytes (s.colour (left (keeps_color t.tags) (same_bytes t.solid_color bytes) h))
      (same_display t.solid_color bytes (right (keeps_color t.tags) (same_bytes t.solid_color bytes) h))

  after_solid : (bytes : List ℕ) → KeepsShown (keep_color t bytes) (displayed (keep_or_write (keeps_same t bytes)) bytes d)
  after_solid bytes = record { tag = tags_color t s.tag; colour = λ h. by (keeps_same t bytes) refl }
    where
      by : (k : Bool) → keeps_same t bytes ≡ k → ShowsBytes (displayed (keep_or_write k) bytes d) bytes
      by true e = keep_right bytes e
      by false e = display_self bytes

pub solid_right : SolidRight
solid_right t d s =
    record {
      none = λ n. record { tag = tags_count t s.tag; colour = λ h. s.colour (sym (ap (λ c. c.given) (color_left t s.tag n)) ∙ h) };
      uncounted = record { tag = tags_uncounted t s.tag; colour = λ h. s.colour (sym (ap (λ c. c.given) (color_uncounted t s.tag)) ∙ h) };
      paint = λ drawn. record { tag = tags_dropped t s.tag; colour = λ h. absurd (false≢true (sym (color_dropped t s.tag) ∙ h)) };
      keep = keep_right t d s;
      settled = after_solid t d s;
    }

pub first_shown : FirstShown
first_shown d = record { tag = omega arith; colour = λ h. absurd (false≢true h) }
