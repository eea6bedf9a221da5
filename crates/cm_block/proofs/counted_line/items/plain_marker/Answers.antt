use Rattle.std.proofs.Common.{◌≡◌, ◌+◌, ◌<◌, ◌==◌, false, length, get_or, refl, subst, arith}
use Rattle.cm_scan.specs.Words.{is_space_or_tab}
use Rattle.cm_block.proofs.counted_line.items.plain_marker.Goals as goal

pub returns : goal.returns
returns c =
    let shows = c.if-not-has_plain_content.ensures in
    let is = c.as_bytes-bytes.ensures.value in
    let end = c.in_ok-marker.end in
    record {
      eager = c.if-line.false;
      near = omega (arith, c.if-line-gt3.false);
      at = record {
        marks = c.in_ok-marker.ensures.marker;
        ends = omega (arith, c.in_ok-marker.ensures.end);
        within = subst (λ t. end + 1 < length t) is (shows.within refl);
        space = subst (λ t. get_or t end 0 ≡ 32) is (shows.space refl);
        plain = subst (λ t. is_space_or_tab (get_or t (end + 1) 0) ≡ false) is (shows.plain refl);
        other = subst (λ t. (get_or t (end + 1) 0 == get_or t 0 0) ≡ false) is (shows.other refl);
      };
    }
