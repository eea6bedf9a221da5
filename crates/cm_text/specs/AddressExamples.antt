-- Worked examples of addresses, by computation.
use Rattle.std.specs.Prelude.{◌≡◌, true, false, [], ◌∷◌, Some, None, codes}
use Rattle.cm_text.specs.Unescaping.{unescape}
use Rattle.cm_text.specs.Addresses.{address_scheme, is_web_address}

pub record AddressExamples : Type 0 where
  pub path : address_scheme (codes "/a:b") ≡ None
  pub query : address_scheme (codes "?a:b") ≡ None
  pub fragment : address_scheme (codes "#a:b") ≡ None
  pub second_part : address_scheme (codes "a/b:c") ≡ None
  pub nothing : is_web_address [] ≡ true
  pub other_host : is_web_address (codes "//a.b:80/c") ≡ true
  pub scheme : address_scheme (codes "a:b:c") ≡ Some (codes "a")
  pub https : is_web_address (codes "hTTpS://a.b") ≡ true
  pub mail : is_web_address (codes "MailTo:a@b") ≡ true
  pub script : is_web_address (codes "javascript:alert(1)") ≡ false
  pub script_in_capitals : is_web_address (codes "JAVASCRIPT:alert(1)") ≡ false
  pub script_after_a_space : is_web_address (codes " javascript:alert(1)") ≡ false
  pub script_after_a_control : is_web_address (1 ∷ codes "javascript:alert(1)") ≡ false
  pub script_around_a_tab : is_web_address (codes "java\tscript:alert(1)") ≡ false
  pub script_around_a_line_feed : is_web_address (codes "java\nscript:alert(1)") ≡ false
  pub script_by_references : is_web_address (unescape (codes "java&#115;cript&#x3A;alert(1)")) ≡ false
  pub script_by_escapes : is_web_address (unescape (codes "javascript\\:alert(1)")) ≡ false
  pub web_around_a_tab : is_web_address (codes "ht\ttp:a") ≡ false
  pub encoded_colon : is_web_address (codes "javascript%3Aalert(1)") ≡ true
  pub data_url : is_web_address (codes "data:text/html,a") ≡ false
  pub vbscript : is_web_address (codes "vbscript:a") ≡ false
  pub file : is_web_address (codes "file:///a") ≡ false
  pub longer : is_web_address (codes "httpsx:a") ≡ false
  pub colon_alone : is_web_address (codes ":a") ≡ false
