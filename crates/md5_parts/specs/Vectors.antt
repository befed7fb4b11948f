-- The test suite of RFC 1321, A.5: what the definition gives for each of its messages.
use Rattle.std.specs.Prelude.{◌≡◌, [], ◌∷◌, refl}
use Rattle.format.specs.Bytes.{text}
use Rattle.md5_parts.specs.Md5.{stepped, operation, round, words_of, added, rounds, compressed, blocks, padding, digest_of, md5}

pub of_nothing : md5 [] ≡ 212 ∷ 29 ∷ 140 ∷ 217 ∷ 143 ∷ 0 ∷ 178 ∷ 4 ∷ 233 ∷ 128 ∷ 9 ∷ 152 ∷ 236 ∷ 248 ∷ 66 ∷ 126 ∷ []
unfolding stepped operation round words_of added rounds compressed blocks padding digest_of md5
of_nothing = refl

pub of_a : md5 (text "a") ≡ 12 ∷ 193 ∷ 117 ∷ 185 ∷ 192 ∷ 241 ∷ 182 ∷ 168 ∷ 49 ∷ 195 ∷ 153 ∷ 226 ∷ 105 ∷ 119 ∷ 38 ∷ 97 ∷ []
unfolding stepped operation round words_of added rounds compressed blocks padding digest_of md5
of_a = refl

pub of_abc : md5 (text "abc") ≡ 144 ∷ 1 ∷ 80 ∷ 152 ∷ 60 ∷ 210 ∷ 79 ∷ 176 ∷ 214 ∷ 150 ∷ 63 ∷ 125 ∷ 40 ∷ 225 ∷ 127 ∷ 114 ∷ []
unfolding stepped operation round words_of added rounds compressed blocks padding digest_of md5
of_abc = refl

pub of_message_digest : md5 (text "message digest") ≡ 249 ∷ 107 ∷ 105 ∷ 125 ∷ 124 ∷ 183 ∷ 147 ∷ 141 ∷ 82 ∷ 90 ∷ 47 ∷ 49 ∷ 170 ∷ 241 ∷ 97 ∷ 208 ∷ []
unfolding stepped operation round words_of added rounds compressed blocks padding digest_of md5
of_message_digest = refl

pub of_the_alphabet : md5 (text "abcdefghijklmnopqrstuvwxyz") ≡ 195 ∷ 252 ∷ 211 ∷ 215 ∷ 97 ∷ 146 ∷ 228 ∷ 0 ∷ 125 ∷ 251 ∷ 73 ∷ 108 ∷ 202 ∷ 103 ∷ 225 ∷ 59 ∷ []
unfolding stepped operation round words_of added rounds compressed blocks padding digest_of md5
of_the_alphabet = refl

pub of_letters_and_digits : md5 (text "ABCDEFGHIJKLMNOPQRSTUVWXYZabcdefghijklmnopqrstuvwxyz0123456789") ≡ 209 ∷ 116 ∷ 171 ∷ 152 ∷ 210 ∷ 119 ∷ 217 ∷ 245 ∷ 165 ∷ 97 ∷ 28 ∷ 44 ∷ 159 ∷ 65 ∷ 157 ∷ 159 ∷ []
unfolding stepped operation round words_of added rounds compressed blocks padding digest_of md5
of_letters_and_digits = refl

pub of_eighty_digits : md5 (text "12345678901234567890123456789012345678901234567890123456789012345678901234567890") ≡ 87 ∷ 237 ∷ 244 ∷ 162 ∷ 43 ∷ 227 ∷ 201 ∷ 85 ∷ 172 ∷ 73 ∷ 218 ∷ 46 ∷ 33 ∷ 7 ∷ 182 ∷ 122 ∷ []
unfolding stepped operation round words_of added rounds compressed blocks padding digest_of md5
of_eighty_digits = refl
