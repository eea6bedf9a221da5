use Rattle.std.proofs.Common.{◌≡◌, ◌∙◌, codes, refl, rules, Bool, not, ◌||◌}
use Rattle.clap.specs.Words.{found_of, rows_of}
use Rattle.clap.proofs.WalkLemmas.{one_text-rows}
use Rattle.cm_text.specs.Rules.{Rules}
use Rattle.cm_command.specs.CommandLine.{is_set, Older, Strike, NoHtml, WebLinks, Safe}
use Rattle.cm_command.proofs.lemmas.CommandLineLemmas.{flag_read}
use Rattle.cm_command.proofs.command_line.rules_of.Goals.{then-get_flag, else-get_flag, then-no_html, else-no_html, then-web_links, else-web_links}
use Rattle.cm_command.proofs.command_line.rules_of.Goals as goal

abbrev by_flags : Bool → Bool → Bool → Bool → Rules
by_flags older strike no_html web_links = record { older = older; strike = strike; raw_html = not no_html; any_address = not web_links }

pub returns : goal.returns
returns c =
    let found = found_of c.args.found.now in
    let rows = rows_of found in
    let older_text = one_text-rows found (codes "older") in
    let strike_text = one_text-rows found (codes "strike") in
    let html_text = one_text-rows found (codes "no-html") in
    let links_text = one_text-rows found (codes "web-links") in
    let safe_text = one_text-rows found (codes "safe") in
    let older_is : c.get_flag.result ≡ is_set (codes "older") rows = flag_read (codes "older") rows c.get_flag.result (c.requires Older) (λ value. refl)
    (λ is. c.get_flag.ensures.value (older_text ∙ is), λ is. c.get_flag.ensures.other (older_text ∙ is)) in
    let strike_is : c.get_flag-2.result ≡ is_set (codes "strike") rows = flag_read (codes "strike") rows c.get_flag-2.result (c.requires Strike) (λ value. refl)
    (λ is. c.get_flag-2.ensures.value (strike_text ∙ is), λ is. c.get_flag-2.ensures.other (strike_text ∙ is)) in
    let html_is : c.get_flag-no_html.result ≡ is_set (codes "no-html") rows = flag_read (codes "no-html") rows c.get_flag-no_html.result (c.requires NoHtml) (λ value. refl)
    (λ is. c.get_flag-no_html.ensures.value (html_text ∙ is), λ is. c.get_flag-no_html.ensures.other (html_text ∙ is)) in
    let links_is : c.get_flag-web_links.result ≡ is_set (codes "web-links") rows = flag_read (codes "web-links") rows c.get_flag-web_links.result (c.requires WebLinks) (λ value. refl)
    (λ is. c.get_flag-web_links.ensures.value (links_text ∙ is), λ is. c.get_flag-web_links.ensures.other (links_text ∙ is)) in
    let safe_is : c.get_flag-safe.result ≡ is_set (codes "safe") rows = flag_read (codes "safe") rows c.get_flag-safe.result (c.requires Safe) (λ value. refl)
    (λ is. c.get_flag-safe.ensures.value (safe_text ∙ is), λ is. c.get_flag-safe.ensures.other (safe_text ∙ is)) in
    let older_made : c.if-get_flag.rules.older ≡ is_set (codes "older") rows = elim c.if-get_flag.branch [
      | then-get_flag w ↦ search (rules, older_is)
      | else-get_flag w ↦ search (rules, older_is)
    ] in
    let html_made : c.if-no_html.with_raw_html ≡ (is_set (codes "no-html") rows || is_set (codes "safe") rows) = elim c.if-no_html.branch [
      | then-no_html w ↦ search (rules, html_is, safe_is)
      | else-no_html w ↦ search (rules, html_is, safe_is)
    ] in
    let links_made : c.if-web_links.with_any_address ≡ (is_set (codes "web-links") rows || is_set (codes "safe") rows) = elim c.if-web_links.branch [
      | then-web_links w ↦ search (rules, links_is, safe_is)
      | else-web_links w ↦ search (rules, links_is, safe_is)
    ] in
    let made : c.with_any_address.result ≡ by_flags c.if-get_flag.rules.older c.get_flag-2.result c.if-no_html.with_raw_html c.if-web_links.with_any_address = search rules in
    made ∙ (λ i. by_flags (older_made i) (strike_is i) (html_made i) (links_made i))
